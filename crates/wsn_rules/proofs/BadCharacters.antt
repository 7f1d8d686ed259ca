-- The character with which a text goes wrong: which of the payload's bytes it is, and where they are.
use Rattle.std.proofs.Common.{◌≡◌, ℕ, ◌+◌, ◌-◌, ◌<◌, ◌≤◌, false, Option, None, Some, List, [], ◌∷◌, ◌++◌, length, take, drop, refl, sym, ap, ◌∙◌, subst, inl, inr, append_assoc, append-nil, length-append, length-drop, take-append-drop, arith}
use Rattle.std.specs.Prelude.{is_some}
use Rattle.std.specs.Str.Lossy.{utf8_valid_len}
use Rattle.std.proofs.lemmas.List.{take_at, drop_at, map-append, length-take-le}
use Rattle.std.proofs.lemmas.Bool.{cond-true, cond-false}
use Rattle.std.proofs.lemmas.Str.{utf8_valid_len_le}
use Rattle.wsn_wire.specs.declared.endpoint.Role.{Role}
use Rattle.wsn_wire.specs.declared.refusal.Reason.{Reason}
use Rattle.wsn_wire.specs.declared.refusal.Reason.TheVariants.{ReservedBits, ReservedOpcode, ControlNotFinal, NothingToContinue, MessageOpen, MaskMissing, MaskPresent, ControlTooLong, CloseOneByte, LengthTopBit, LengthNotMinimal, MessageTooBig, CloseCode, CloseReason, TextBad, TextCut, TooManyFrames}
use Rattle.wsn_wire.specs.declared.opcode.Op.{Op}
use Rattle.wsn_wire.specs.declared.opcode.Op.TheVariants.{Continue, Text, Binary, Close, Ping, Pong}
use Rattle.wsn_wire.specs.Frame.{Frame, IsBytes, is_control, opcode, stream, head_bytes, key_bytes, masked, wire_payload}
use Rattle.wsn_wire.specs.ReceivedHead.{opcode_field, mask_bit}
use Rattle.wsn_wire.proofs.FrameLemmas.{first_byte_fields, IsBytes-left, IsBytes-right, length-wire_payload}
use Rattle.wsn_text.specs.Utf8.{IsText, BeginsText, IsFirstBad}
use Rattle.wsn_text.proofs.Prefixes.{begins-nil, bad_ends}
use Rattle.wsn_text.proofs.Numbers.{less_or_not}
use Rattle.wsn_text.proofs.LongestText.{valid_is_longest, split, before_bad}
use Rattle.wsn_rules.specs.declared.detail.Detail.{Detail}
use Rattle.wsn_rules.specs.declared.head_info.HeadInfo.{HeadInfo}
use Rattle.wsn_rules.specs.declared.verdict.Refusal.{Refusal}
use Rattle.wsn_rules.specs.Limits.{Limits}
use Rattle.wsn_rules.specs.Evidence.{Evidence, IntoPayload, IsOfText, EndsBad, unmasked}
use Rattle.wsn_rules.specs.Evidence.Evidence.{ByFirst, BySecond, ByLength, ByPayload}
use Rattle.wsn_rules.specs.Group.{unfinished, payload_of}
use Rattle.wsn_rules.specs.Heads.{BeginsWithHead}
use Rattle.wsn_rules.specs.Verdict.{IsRefused}
use Rattle.wsn_rules.specs.BadCharacter.{PlacedByte, placed, BadCharacter, GoesWrongWith, IsPayloadByte, IsEarlierEnd, payload_offset, last_of, open_payload, message_payload, first_offset, bytes_of, earlier_end, bad_character, character_of}
use Rattle.wsn_rules.specs.ShownStream.{Item, Shown, shown_after, interrupted, IsShownEvidence, IsShownRefusal}
use Rattle.wsn_rules.specs.ShownStream.Item.{RefusedFrame}
use Rattle.wsn_rules.proofs.Groups.{IsGroup, group_of_lawful}
use Rattle.wsn_rules.proofs.Prefixes.{same_front}
use Rattle.wsn_rules.proofs.HeadEvidence.{unmasked-nil}
use Rattle.wsn_rules.proofs.OpenPayloads.{bytes_of-drop, length-open, payload_so_far, first_at, drop_past, first_in_front, open_bytes}
use Rattle.wsn_rules.proofs.LeastEvident.{evidence_is_some}
use Rattle.wsn_rules.proofs.BegunHeads.{SameParts, same_parts, encodable_begun, begun_is}
use Rattle.wsn_rules.proofs.EveryShown.{whole_head}

-- ---- the character

-- The last element.
last_apart : (xs : List ℕ) → 0 < length xs → (front : List ℕ) × (x : ℕ) × (xs ≡ front ++ x ∷ [])
last_apart [] some = absurd (omega (arith, some))
last_apart (x ∷ []) some = ([], x, refl)
last_apart (x ∷ y ∷ xs) some = let p = last_apart (y ∷ xs) (omega arith) in (x ∷ p.0, p.1, ap (λ (bs : List ℕ). x ∷ bs) p.2)

longest_at : (text front rest : List ℕ) → text ≡ front ++ rest → IsText front → length front ≤ length (take (utf8_valid_len text) text)
longest_at text front rest is is_text =
    let n = utf8_valid_len text in
    let size : length (take n text) ≡ n = length-take-le n text (utf8_valid_len_le text) in
    let all : length text ≡ length front + length rest = ap (λ (bs : List ℕ). length bs) is ∙ length-append front rest in
    let same : take (length front) text ≡ front = ap (λ (bs : List ℕ). take (length front) bs) is ∙ take_at front rest (length front) refl in
    elim (less_or_not n (length front)) [
      | inl less ↦ absurd ((valid_is_longest text).longest (length front) less (omega (arith, all)) (subst IsText (sym same) is_text))
      | inr le ↦ omega (arith, le, size)
    ]

goes_wrong_at : (earlier : List ℕ) (payload : List PlacedByte) (front : List ℕ) (b : ℕ) → bytes_of payload ≡ front ++ b ∷ [] → BeginsText front → ¬ (BeginsText (front ++ b ∷ [])) → GoesWrongWith (front ++ b ∷ []) (bad_character earlier payload)
goes_wrong_at earlier payload front b is begins ends =
    let text = front ++ b ∷ [] in
    let s = split front b begins ends in
    let n = utf8_valid_len (bytes_of payload) in
    let same : n ≡ utf8_valid_len text = ap utf8_valid_len is in
    let character : bytes_of (drop n payload) ≡ drop (utf8_valid_len text) text =
    bytes_of-drop n payload ∙ ap (λ (bs : List ℕ). drop n bs) is ∙ ap (λ (m : ℕ). drop m text) same in
    let bytes : bytes_of (drop n payload) ≡ s.part ++ b ∷ [] = character ∙ s.is in
    let few = s.few in
    let size : length (bytes_of (drop n payload)) ≡ length s.part + 1 = ap (λ (bs : List ℕ). length bs) bytes ∙ length-append s.part (b ∷ []) in
    record {
      whole = take (utf8_valid_len text) text;
      is = sym (take-append-drop (utf8_valid_len text) text) ∙ ap (λ (bs : List ℕ). take (utf8_valid_len text) text ++ bs) (sym character);
      in_payload = same ∙ sym (length-take-le (utf8_valid_len text) text (utf8_valid_len_le text));
      text = s.whole;
      longest = longest_at text;
      begun = s.part;
      last = b;
      bytes = bytes;
      begins = s.begun;
      bad = λ begun. s.bad (subst BeginsText character begun);
      few = omega (arith, size, few);
    }

goes_wrong : (earlier : List ℕ) (payload : List PlacedByte) (text : List ℕ) → bytes_of payload ≡ text → EndsBad text → GoesWrongWith text (bad_character earlier payload)
goes_wrong earlier payload text is (i, last, bad) = by text is last bad (last_apart text (omega (arith, last)))
  where
    by : (text : List ℕ) → bytes_of payload ≡ text → i + 1 ≡ length text → IsFirstBad text i → (front : List ℕ) × (b : ℕ) × (text ≡ front ++ b ∷ []) → GoesWrongWith text (bad_character earlier payload)
    by text is last bad (front, b, parts) =
        let moved : IsFirstBad (front ++ b ∷ []) i = subst (λ (bs : List ℕ). IsFirstBad bs i) parts bad in
        let begins : BeginsText front = before_bad front b i moved (last ∙ ap (λ (bs : List ℕ). length bs) parts) in
        subst (λ (bs : List ℕ). GoesWrongWith bs (bad_character earlier payload)) (sym parts) (goes_wrong_at earlier payload front b (is ∙ parts) begins (bad_ends (front ++ b ∷ []) i moved))

-- The end of the payload in earlier frames.
end_of_earlier : (payload : List ℕ) → IsEarlierEnd payload (last_of 48 payload)
end_of_earlier payload =
    let n = length payload - 48 in
    let size : length (drop n payload) ≡ length payload - n = length-drop n payload in
    record {
      front = take n payload;
      is = sym (take-append-drop n payload);
      few = omega (arith, size);
      enough = λ some. elim (less_or_not 48 (length payload)) [
        | inl more ↦ omega (arith, size, more)
        | inr all ↦ absurd (some (ap (λ (k : ℕ). take k payload) (let none : n ≡ 0 = omega (arith, all) in none)))
      ];
    }

-- The payload determines it.
pub one_character : (payload : List ℕ) (c d : BadCharacter) → GoesWrongWith payload c → GoesWrongWith payload d → (c.in_payload ≡ d.in_payload) × (c.bytes ≡ d.bytes)
one_character payload c d wrong other =
    let to = wrong.longest other.whole d.bytes other.is other.text in
    let from = other.longest wrong.whole c.bytes wrong.is wrong.text in
    let same : length wrong.whole ≡ length other.whole = omega (arith, to, from) in
    let parts = same_front wrong.whole other.whole c.bytes d.bytes same (sym wrong.is ∙ other.is) in
    (wrong.in_payload ∙ same ∙ sym other.in_payload, parts.1)

-- ---- its offset

-- If the last bytes of the payload are in this part, the last of them is its last byte.
pub offset_is : (fs : List Frame) (info : HeadInfo) (part : List ℕ) → GoesWrongWith (payload_of (unfinished fs) ++ part) (bad_character (earlier_end fs) (message_payload fs info part))
    → length ((bad_character (earlier_end fs) (message_payload fs info part)).bytes) ≤ length part
    → (bad_character (earlier_end fs) (message_payload fs info part)).offset + length ((bad_character (earlier_end fs) (message_payload fs info part)).bytes) ≡ payload_offset info + length part
offset_is fs info part wrong fits =
    let c = bad_character (earlier_end fs) (message_payload fs info part) in
    let held = open_payload fs in
    let n = c.in_payload in
    let held_size = length-open fs in
    let both : length (payload_of (unfinished fs)) + length part ≡ length wrong.whole + length c.bytes =
    sym (length-append (payload_of (unfinished fs)) part) ∙ ap (λ (bs : List ℕ). length bs) wrong.is ∙ length-append wrong.whole c.bytes in
    let at = wrong.in_payload in
    let some : length c.bytes ≡ length wrong.begun + 1 = ap (λ (bs : List ℕ). length bs) wrong.bytes ∙ length-append wrong.begun (wrong.last ∷ []) in
    let past : length held ≤ n = omega (arith, held_size, both, at, fits) in
    let later : drop n (message_payload fs info part) ≡ drop (n - length held) (placed (payload_offset info) part) = drop_past held (placed (payload_offset info) part) n past in
    let offset : c.offset ≡ payload_offset info + (n - length held) =
    ap first_offset later ∙ first_at (payload_offset info) (n - length held) part (omega (arith, held_size, both, at, some, past)) in
    omega (arith, offset, held_size, both, at, past)

-- If some of them are in an earlier part, so is the first.
pub earlier_is : (fs : List Frame) (info : HeadInfo) (part : List ℕ) → GoesWrongWith (payload_of (unfinished fs) ++ part) (bad_character (earlier_end fs) (message_payload fs info part))
    → length part < length ((bad_character (earlier_end fs) (message_payload fs info part)).bytes)
    → IsPayloadByte fs ((bad_character (earlier_end fs) (message_payload fs info part)).in_payload) ((bad_character (earlier_end fs) (message_payload fs info part)).offset)
earlier_is fs info part wrong long =
    let c = bad_character (earlier_end fs) (message_payload fs info part) in
    let held = open_payload fs in
    let held_size = length-open fs in
    let both : length (payload_of (unfinished fs)) + length part ≡ length wrong.whole + length c.bytes =
    sym (length-append (payload_of (unfinished fs)) part) ∙ ap (λ (bs : List ℕ). length bs) wrong.is ∙ length-append wrong.whole c.bytes in
    let at = wrong.in_payload in
    let within : c.in_payload < length held = omega (arith, held_size, both, at, long) in
    subst (λ (n : ℕ). IsPayloadByte fs c.in_payload n) (sym (first_in_front c.in_payload held (placed (payload_offset info) part) within)) (open_bytes fs c.in_payload within)

-- ---- the part of the payload that is evidence

unmasked_is : (key : Option (List ℕ)) (second : ℕ) (keys bytes : List ℕ) → mask_bit second ≡ is_some key → key_bytes key ≡ keys → wire_payload key bytes ≡ unmasked second keys bytes
unmasked_is None second keys bytes mask is = sym (cond-false (mask_bit second) (masked keys 0 bytes) bytes mask)
unmasked_is (Some key) second keys bytes mask is = ap (λ (ks : List ℕ). masked ks 0 bytes) is ∙ sym (cond-true (mask_bit second) (masked keys 0 bytes) bytes mask)

module _ (role : Role) (limits : Limits) where
  record IsTextBad (group : List Frame) (seen : List ℕ) : Type 0 where
    into : IntoPayload seen
    of_text : IsOfText group (opcode_field into.first)
    bad : EndsBad (payload_of group ++ unmasked into.second into.key into.wire)

  is_text_bad : (group : List Frame) (seen : List ℕ) → Evidence role limits group TextBad seen → IsTextBad group seen
  is_text_bad group seen (ByFirst first is row) = absurd row
  is_text_bad group seen (BySecond first second is row) = absurd row
  is_text_bad group seen (ByLength first second len is count row) = absurd row
  is_text_bad group seen (ByPayload p row) = record { into = p; of_text = row.0; bad = row.1 }

  text_opcode : (group : List Frame) (opcode : ℕ) → IsOfText group opcode → opcode ≤ 2
  text_opcode [] opcode of_text = omega (arith, of_text)
  text_opcode (f ∷ group) opcode of_text = of_text.0

  not_control : (op : Op) → opcode op ≤ 2 → is_control op ≡ false
  not_control Close few = absurd (omega (arith, few))
  not_control Ping few = absurd (omega (arith, few))
  not_control Pong few = absurd (omega (arith, few))
  not_control _ few = refl

  group_begins : (group : List Frame) (opcode : ℕ) → IsGroup limits group → IsOfText group opcode → BeginsText (payload_of group)
  group_begins [] opcode is of_text = begins-nil
  group_begins (f ∷ group) opcode is of_text = is.begins of_text.1

  -- The bad byte is in this frame.
  wire_some : (front : List ℕ) (second : ℕ) (key wire : List ℕ) → BeginsText front → EndsBad (front ++ unmasked second key wire) → 0 < length wire
  wire_some front second key [] begins bad =
      let none : front ++ unmasked second key [] ≡ front = ap (λ (bs : List ℕ). front ++ bs) (unmasked-nil second key [] refl) ∙ append-nil front in
      absurd (bad_ends (front ++ unmasked second key []) bad.0 bad.2 (subst BeginsText (sym none) begins))
  wire_some front second key (b ∷ wire) begins bad = omega arith

  module _ (bytes : List ℕ) (fs : List Frame) (offset : ℕ) (in_bytes : IsBytes bytes) (refused : IsRefused role limits bytes fs offset TextBad) where
    abbrev seen : List ℕ
    seen = refused.is_evident.seen

    abbrev later : List ℕ
    later = refused.is_evident.later

    abbrev group : List Frame
    group = unfinished fs

    seen_bytes : IsBytes refused.is_evident.seen
    seen_bytes = IsBytes-left seen later (IsBytes-right (stream fs) (seen ++ later) (subst IsBytes refused.is_evident.whole in_bytes))

    text_bad : IsTextBad (unfinished fs) refused.is_evident.seen
    text_bad = is_text_bad (unfinished fs) refused.is_evident.seen refused.is_evident.evidence

    some : 0 < length text_bad.into.wire
    some =
        let begins = group_begins group (opcode_field text_bad.into.first) (group_of_lawful role limits fs refused.lawful) text_bad.of_text in
        wire_some (payload_of group) text_bad.into.second text_bad.into.key text_bad.into.wire begins text_bad.bad

    -- Nothing before that byte is evidence.
    no_evidence : (front after : List ℕ) (reason : Reason) → refused.is_evident.seen ≡ front ++ after → 0 < length after → Evidence role limits (unfinished fs) reason front → ⊥
    no_evidence front after reason is before evidence =
        let size : length seen ≡ length front + length after = ap (λ (bs : List ℕ). length bs) is ∙ length-append front after in
        let stops = refused.is_evident.at_offset in
        let begun = evidence_is_some role limits group reason front evidence in
        let at = (length (stream fs) + length front) - 1 in
        let first = refused.least at reason (record {
          seen = front;
          later = after ++ later;
          whole = refused.is_evident.whole ∙ ap (λ (bs : List ℕ). stream fs ++ bs) (ap (λ (bs : List ℕ). bs ++ later) is ∙ append_assoc front after later);
          at_offset = omega (arith, begun);
          evidence = evidence;
        }) in
        elim first [
          | inl less ↦ omega (arith, less, size, stops, before, begun)
          | inr same ↦ let here = same.0 in omega (arith, here, size, stops, before, begun)
        ]

    -- So the bytes begin with a whole head, and more follows.
    head : (info : HeadInfo) × BeginsWithHead role limits fs refused.is_evident.seen info
    head =
        let p = text_bad.into in
        let h = whole_head role limits fs p.first p.second p.len p.key p.wire (subst IsBytes p.whole seen_bytes) p.len_count p.key_counted (none p some) in
        (h.0, subst (λ (bs : List ℕ). BeginsWithHead role limits fs bs h.0) (sym p.whole) h.1)
      where
        none : (p : IntoPayload refused.is_evident.seen) → 0 < length p.wire → (m : ℕ) (s : Reason) → m ≤ length (p.first ∷ p.second ∷ (p.len ++ p.key)) → Evidence role limits (unfinished fs) s (take m (p.first ∷ p.second ∷ (p.len ++ p.key))) → ⊥
        none p follows m s fits evidence =
            let front = p.first ∷ p.second ∷ (p.len ++ p.key) in
            let whole : seen ≡ take m front ++ (drop m front ++ p.wire) =
            p.whole ∙ ap (λ (bs : List ℕ). p.first ∷ p.second ∷ bs) (sym (append_assoc p.len p.key p.wire)) ∙ ap (λ (bs : List ℕ). bs ++ p.wire) (sym (take-append-drop m front)) ∙ append_assoc (take m front) (drop m front) p.wire in
            no_evidence (take m front) (drop m front ++ p.wire) s whole (omega (arith, follows, length-append (drop m front) p.wire)) evidence

    parts : (info : HeadInfo) (b : BeginsWithHead role limits fs refused.is_evident.seen info) → SameParts info b.following text_bad.into.first text_bad.into.second text_bad.into.len text_bad.into.key text_bad.into.wire
    parts info b =
        let p = text_bad.into in
        same_parts info b.following p.first p.second p.len p.key p.wire (encodable_begun role limits fs seen info b) (sym (begun_is role limits fs seen info b) ∙ p.whole) p.len_count p.key_counted

    follows : (info : HeadInfo) (b : BeginsWithHead role limits fs refused.is_evident.seen info) → b.following ≡ [] → ⊥
    follows info b none =
        let wire : length text_bad.into.wire ≡ 0 = ap (λ (bs : List ℕ). length bs) (sym (parts info b).following_is ∙ none) in
        omega (arith, wire, some)

    pub ends_bad : (info : HeadInfo) (b : BeginsWithHead role limits fs refused.is_evident.seen info) → EndsBad (payload_of (unfinished fs) ++ wire_payload info.key b.following)
    ends_bad info b =
        let p = text_bad.into in
        let same = parts info b in
        let payload : wire_payload info.key b.following ≡ unmasked p.second p.key p.wire =
        ap (λ (bs : List ℕ). wire_payload info.key bs) same.following_is ∙ unmasked_is info.key p.second p.key p.wire same.mask_is same.key_is in
        subst (λ (bs : List ℕ). EndsBad (payload_of group ++ bs)) (sym payload) text_bad.bad

    -- The frame is a data frame.
    pub of_data : (info : HeadInfo) (b : BeginsWithHead role limits fs refused.is_evident.seen info) → is_control info.op ≡ false
    of_data info b =
        let first = (first_byte_fields info.fin info.op).opcode_is in
        let same : opcode info.op ≡ opcode_field text_bad.into.first = sym first ∙ ap opcode_field (parts info b).first_is in
        let few = text_opcode group (opcode_field text_bad.into.first) text_bad.of_text in
        not_control info.op (omega (arith, same, few))

    -- The payload ends with the offending byte.
    end_is : (info : HeadInfo) (b : BeginsWithHead role limits fs refused.is_evident.seen info) → payload_offset info + length (wire_payload info.key b.following) ≡ offset + 1
    end_is info b =
        let front = head_bytes info.fin info.op info.key info.form info.len in
        let at = b.offset in
        let stops = refused.is_evident.at_offset in
        let size : length seen ≡ length front + length b.following = ap (λ (bs : List ℕ). length bs) (b.whole ∙ ap (λ (bs : List ℕ). bs ++ b.following) b.encoded) ∙ length-append front b.following in
        let part = length-wire_payload info.key b.following in
        omega (arith, at, stops, size, part)

    pub record HasCharacter (evidence : List ℕ) (character : Option BadCharacter) : Type 0 where
      pub of : BadCharacter
      pub is : character ≡ Some of
      pub wrong : GoesWrongWith (payload_of (unfinished fs) ++ evidence) of
      pub ends : IsEarlierEnd (payload_of (unfinished fs)) of.earlier
      pub end_is : length of.bytes ≤ length evidence → of.offset + length of.bytes ≡ offset + 1
      pub earlier : length evidence < length of.bytes → IsPayloadByte fs of.in_payload of.offset

    pub has_character : (evidence : List ℕ) (character : Option BadCharacter) → IsShownEvidence role limits fs TextBad (drop (length (stream fs)) (take (offset + 1) bytes)) evidence character → HasCharacter evidence character
    has_character evidence character is = by (subst (λ (bs : List ℕ). IsShownEvidence role limits fs TextBad bs evidence character) seen_is is)
      where
        seen_is : drop (length (stream fs)) (take (offset + 1) bytes) ≡ seen
        seen_is =
            let n = length (stream fs) in
            let stops = refused.is_evident.at_offset in
            let grouped : bytes ≡ (stream fs ++ seen) ++ later = refused.is_evident.whole ∙ sym (append_assoc (stream fs) seen later) in
            let to_seen : length (stream fs ++ seen) ≡ offset + 1 = length-append (stream fs) seen ∙ sym stops in
            ap (λ (bs : List ℕ). drop n (take (offset + 1) bs)) grouped ∙ ap (λ (bs : List ℕ). drop n bs) (take_at (stream fs ++ seen) later (offset + 1) to_seen) ∙ drop_at (stream fs) seen n refl

        by : IsShownEvidence role limits fs TextBad refused.is_evident.seen evidence character → HasCharacter evidence character
        by (inr p) = absurd (follows head.0 head.1 (p.0 head.0 head.1))
        by (inl (info, b, p, part, is_character)) =
            let payload = message_payload fs info evidence in
            let bad : EndsBad (payload_of (unfinished fs) ++ evidence) = subst (λ (bs : List ℕ). EndsBad (payload_of (unfinished fs) ++ bs)) (sym part) (ends_bad info b) in
            let wrong = goes_wrong (earlier_end fs) payload (payload_of (unfinished fs) ++ evidence) (payload_so_far fs info evidence) bad in
            let end : payload_offset info + length evidence ≡ offset + 1 = ap (λ (bs : List ℕ). payload_offset info + length bs) part ∙ end_is info b in
            record {
              of = bad_character (earlier_end fs) payload;
              is = is_character;
              wrong = wrong;
              ends = end_of_earlier (payload_of (unfinished fs));
              end_is = λ fits. offset_is fs info evidence wrong fits ∙ end;
              earlier = earlier_is fs info evidence wrong;
            }

-- ---- the refused frame is shown last

shown_last : (n : ℕ) (items : List Item) (item : Item) → shown_after n (items ++ item ∷ []) ≡ shown_after n items ++ record { after = n; item = item } ∷ []
shown_last n items item = map-append (λ (i : Item). record { after = n; item = i }) items (item ∷ [])

module _ (detail : Detail) (role : Role) (limits : Limits) (bytes : List ℕ) (fs : List Frame) (refusal : Refusal) (shown : List Shown) (is : IsShownRefusal detail role limits bytes fs refusal shown) where
  last_is : (character : Option BadCharacter) → is.character ≡ character
      → shown ≡ shown_after (refusal.offset + 1) (interrupted detail fs) ++ record { after = refusal.offset + 1; item = RefusedFrame (length (stream fs)) refusal is.evidence character } ∷ []
  last_is character same =
      let n = refusal.offset + 1 in
      let item : Option BadCharacter → Item = λ of. RefusedFrame (length (stream fs)) refusal is.evidence of in
      is.is ∙ shown_last n (interrupted detail fs) (item is.character)
      ∙ ap (λ (of : Option BadCharacter). shown_after (refusal.offset + 1) (interrupted detail fs) ++ record { after = refusal.offset + 1; item = RefusedFrame (length (stream fs)) refusal is.evidence of } ∷ []) same

  pub text_bad_shown : IsBytes bytes → IsRefused role limits bytes fs refusal.offset refusal.reason → refusal.reason ≡ TextBad → (earlier : List Shown) × (evidence : List ℕ) × (character : BadCharacter)
      × (shown ≡ earlier ++ record { after = refusal.offset + 1; item = RefusedFrame (length (stream fs)) refusal evidence (Some character) } ∷ [])
      × GoesWrongWith (payload_of (unfinished fs) ++ evidence) character × IsEarlierEnd (payload_of (unfinished fs)) character.earlier
      × (length character.bytes ≤ length evidence → character.offset + length character.bytes ≡ refusal.offset + 1)
      × (length evidence < length character.bytes → IsPayloadByte fs character.in_payload character.offset)
  text_bad_shown in_bytes refused reason =
      let seen = drop (length (stream fs)) (take (refusal.offset + 1) bytes) in
      let bad = subst (λ (r : Reason). IsRefused role limits bytes fs refusal.offset r) reason refused in
      let c = has_character role limits bytes fs refusal.offset in_bytes bad is.evidence is.character
      (subst (λ (r : Reason). IsShownEvidence role limits fs r seen is.evidence is.character) reason is.is_evidence) in
      (shown_after (refusal.offset + 1) (interrupted detail fs), is.evidence, c.of, last_is (Some c.of) c.is, c.wrong, c.ends, c.end_is, c.earlier)

  pub other_shown : ¬ (refusal.reason ≡ TextBad) → (earlier : List Shown) × (evidence : List ℕ)
      × (shown ≡ earlier ++ record { after = refusal.offset + 1; item = RefusedFrame (length (stream fs)) refusal evidence None } ∷ [])
  other_shown other = (shown_after (refusal.offset + 1) (interrupted detail fs), is.evidence, last_is None (by is.is_evidence))
    where
      none : (reason : Reason) (info : HeadInfo) (part : List ℕ) → ¬ (reason ≡ TextBad) → character_of reason fs info part ≡ None
      none TextBad info part other = absurd (other refl)
      none _ info part other = refl

      by : IsShownEvidence role limits fs refusal.reason (drop (length (stream fs)) (take (refusal.offset + 1) bytes)) is.evidence is.character → is.character ≡ None
      by (inl (info, b, p, part, is_character)) = is_character ∙ none refusal.reason info is.evidence other
      by (inr p) = p.2
