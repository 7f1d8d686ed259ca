-- The text of a payload whose prefixes are evidence for no refusal begins text.
use Rattle.std.proofs.Common.{◌≡◌, ℕ, ◌+◌, ◌≤◌, Bool, true, Option, List, [], ◌∷◌, ◌++◌, length, take, drop, if◌then◌else◌, inl, inr, refl, sym, ap, ◌∙◌, subst, append_assoc, length-append, length-drop, arith, take-append-drop}
use Rattle.std.proofs.lemmas.List.{take-take, length-take-le, drop-take}
use Rattle.wsn_wire.specs.declared.endpoint.Role.{Role}
use Rattle.wsn_wire.specs.declared.opcode.Op.{Op}
use Rattle.wsn_wire.specs.declared.opcode.Op.TheVariants.{Continue, Text, Binary, Close, Ping, Pong}
use Rattle.wsn_wire.specs.declared.length_encoding.LenForm.{LenForm}
use Rattle.wsn_wire.specs.declared.refusal.Reason.{Reason}
use Rattle.wsn_wire.specs.declared.refusal.Reason.TheVariants.{CloseReason, TextBad}
use Rattle.wsn_wire.specs.Frame.{Frame, opcode, first_byte, second_byte, len_form_of, length_bytes, key_bytes, wire_payload}
use Rattle.wsn_wire.specs.ReceivedHead.{opcode_field, encoded_length, len_form_at, length_count}
use Rattle.wsn_wire.proofs.FrameLemmas.{first_byte_fields, second_byte_fields, length_bytes_fields, spells-len_form_of, key_bytes_count, length-wire_payload}
use Rattle.wsn_text.specs.Utf8.{BeginsText, IsFirstBad}
use Rattle.wsn_text.proofs.Prefixes.{begins-nil, begins_or_first_bad, first_bad_front}
use Rattle.wsn_frame.proofs.PayloadMore.{take-unmasked_by}
use Rattle.wsn_rules.specs.declared.head_info.HeadInfo.{HeadInfo}
use Rattle.wsn_rules.specs.Limits.{Limits}
use Rattle.wsn_rules.specs.Evidence.{Evidence, IntoPayload, EvidentByPayload, EndsBad, IsOfText}
use Rattle.wsn_rules.specs.Evidence.Evidence.{ByPayload}
use Rattle.wsn_rules.specs.Group.{unfinished, payload_of}
use Rattle.wsn_rules.specs.Heads.{BeginsWithHead}
use Rattle.wsn_rules.specs.Lawful.{IsLawful}
use Rattle.wsn_rules.specs.Verdict.{EndsWithinFrame}
use Rattle.wsn_rules.proofs.BegunHeads.{same_parts, encodable_begun, begun_is}
use Rattle.wsn_rules.proofs.Groups.{IsGroup, group_of_lawful}
use Rattle.wsn_rules.proofs.HeadsGoOn.{begins_longer}
use Rattle.wsn_rules.proofs.MessageText.{bad_after_front}
use Rattle.wsn_scan.proofs.FollowedScans.{wire_payload_is}
use Rattle.wsn_redact.specs.Redaction.{is_of_text}
use Rattle.wsn_redact.proofs.RedactedPayloads.{HasText}
use Rattle.wsn_redact.proofs.RefusedEvidence.{unmasked_is}
use Rattle.wsn_redact.proofs.KeptParts.{MayBegin}
use Rattle.wsn_redact.proofs.RedactedSteps.{may_begun}
use Rattle.wsn_redact.proofs.RedactedEnds.{is_text_first}

-- The first n bytes of a payload that is unmasked.
pub take_wire : (key : Option (List ℕ)) (n : ℕ) (bytes : List ℕ) → n ≤ length bytes → take n (wire_payload key bytes) ≡ wire_payload key (take n bytes)
take_wire key n bytes within = ap (λ (bs : List ℕ). take n bs) (wire_payload_is key bytes) ∙ take-unmasked_by key 0 n bytes within ∙ sym (wire_payload_is key (take n bytes))

pub of_text_of : (group : List Frame) (op : Op) → MayBegin group op → is_of_text group op ≡ true → IsOfText group (opcode op)
of_text_of [] Continue may is = absurd cc
of_text_of [] Text may is = refl
of_text_of (g ∷ group) Continue may is = (omega arith, is_text_first g.op is)
of_text_of (g ∷ group) Text may is = let none : g ∷ group ≡ [] = may.begins (inl refl) in absurd cc
of_text_of group Binary may is = absurd cc
of_text_of group Close may is = absurd cc
of_text_of group Ping may is = absurd cc
of_text_of group Pong may is = absurd cc

-- The text of the open message begins text.
pub group_begins : (limits : Limits) (group : List Frame) (op : Op) → MayBegin group op → IsGroup limits group → is_of_text group op ≡ true → BeginsText (payload_of group)
group_begins limits [] op may is of_text = begins-nil
group_begins limits (g ∷ group) op may is of_text = by op refl of_text
  where
    by : (o : Op) → op ≡ o → is_of_text (g ∷ group) o ≡ true → BeginsText (payload_of (g ∷ group))
    by Continue op_is t = is.begins (is_text_first g.op t)
    by Text op_is t = let none : g ∷ group ≡ [] = may.begins (inl op_is) in absurd cc
    by _ op_is t = absurd cc

module _ (role : Role) (limits : Limits) (fs : List Frame) (seen : List ℕ) (info : HeadInfo) (b : BeginsWithHead role limits fs seen info) where
  abbrev field : LenForm
  field = len_form_of info.form info.len

  abbrev second : ℕ
  second = second_byte info.key (len_form_of info.form info.len)

  abbrev lengths : List ℕ
  lengths = length_bytes (len_form_of info.form info.len) info.len

  -- What a complete frame's bytes say of the payload.
  pub within_frame : EndsWithinFrame seen → length b.following ≤ info.len
  unfolding begins_longer
  within_frame (missing, some, l) =
      let longer = begins_longer role limits fs seen missing info b in
      let parts = same_parts info longer.following l.first l.second l.len l.key l.payload (encodable_begun role limits fs (seen ++ missing) info longer) (sym (begun_is role limits fs (seen ++ missing) info longer) ∙ l.whole) l.len_count l.key_counted in
      let size : length (b.following ++ missing) ≡ length l.payload = ap (λ (bs : List ℕ). length bs) parts.following_is in
      let count = l.payload_count in
      let len = parts.len_is in
      omega (arith, size, count, len, length-append b.following missing)

  module _ (within : length b.following ≤ info.len) (n : ℕ) (fits : n ≤ length b.following) where
    abbrev wire : List ℕ
    wire = take n b.following

    decoded : encoded_length (len_form_at second) lengths ≡ info.len
    decoded =
        let spells = spells-len_form_of info.form info.len b.form b.size in
        ap (λ (f : LenForm). encoded_length f lengths) (second_byte_fields info.key field info.len spells).field_is ∙ (length_bytes_fields field info.len spells).decoded

    abbrev into : IntoPayload (b.head ++ wire)
    into =
        let spells = spells-len_form_of info.form info.len b.form b.size in
        let of_second = second_byte_fields info.key field info.len spells in
        let of_length = length_bytes_fields field info.len spells in
        record {
          first = first_byte info.fin info.op;
          second = second;
          len = lengths;
          key = key_bytes info.key;
          wire = wire;
          whole = ap (λ (bs : List ℕ). bs ++ wire) b.encoded ∙ ap (λ (bs : List ℕ). first_byte info.fin info.op ∷ second ∷ bs) (append_assoc lengths (key_bytes info.key) wire);
          len_count = of_length.count ∙ ap length_count (sym of_second.field_is);
          key_counted = key_bytes_count info.key b.key ∙ ap (λ (c : Bool). if c then 4 else 0) (sym of_second.mask_is);
          within = omega (arith, within, fits, decoded, length-take-le n b.following fits);
        }

    -- Evidence in the first n bytes of the payload is evidence.
    pub evident : (reason : Reason) → EvidentByPayload (unfinished fs) reason (first_byte info.fin info.op) info.len (wire_payload info.key wire) → Evidence role limits (unfinished fs) reason (b.head ++ wire)
    evident reason row =
        let spells = spells-len_form_of info.form info.len b.form b.size in
        let mask = (second_byte_fields info.key field info.len spells).mask_is in
        ByPayload into
        (subst (λ (bs : List ℕ). EvidentByPayload (unfinished fs) reason (first_byte info.fin info.op) (encoded_length (len_form_at second) lengths) bs) (unmasked_is info.key second (key_bytes info.key) wire mask refl)
        (subst (λ (m : ℕ). EvidentByPayload (unfinished fs) reason (first_byte info.fin info.op) m (wire_payload info.key wire)) (sym decoded) row))

  -- If no prefix of up to m bytes of the payload is evidence, its text begins text.
  module _ (lawful : IsLawful role limits fs) (within : length b.following ≤ info.len) (m : ℕ) (fits : m ≤ length b.following)
      (quiet : (n : ℕ) (reason : Reason) → n ≤ m → Evidence role limits (unfinished fs) reason (b.head ++ take n b.following) → ⊥) where
    abbrev payload : List ℕ
    payload = wire_payload info.key (take m b.following)

    size : length payload ≡ m
    size = length-wire_payload info.key (take m b.following) ∙ length-take-le m b.following fits

    shorter : (n : ℕ) → n ≤ m → take n payload ≡ wire_payload info.key (take n b.following)
    shorter n few =
        take_wire info.key n (take m b.following) (let count = length-take-le m b.following fits in omega (arith, few, count)) ∙ ap (λ (bs : List ℕ). wire_payload info.key bs) (take-take n m b.following few)

    opcode_is : opcode_field (first_byte info.fin info.op) ≡ opcode info.op
    opcode_is = (first_byte_fields info.fin info.op).opcode_is

    none_at : (n : ℕ) (reason : Reason) → n ≤ m → EvidentByPayload (unfinished fs) reason (first_byte info.fin info.op) info.len (take n payload) → ⊥
    none_at n reason few row =
        quiet n reason few (evident within n (omega (arith, few, fits)) reason (subst (EvidentByPayload (unfinished fs) reason (first_byte info.fin info.op) info.len) (shorter n few) row))

    may : MayBegin (unfinished fs) info.op
    may = may_begun role limits fs seen info b

    of_text : is_of_text (unfinished fs) info.op ≡ true → BeginsText (payload_of (unfinished fs) ++ payload)
    of_text is = elim (begins_or_first_bad (payload_of (unfinished fs) ++ payload)) [
      | inl begins ↦ begins
      | inr bad ↦
          let front = group_begins limits (unfinished fs) info.op may (group_of_lawful role limits fs lawful) is in
          let found = bad_after_front (payload_of (unfinished fs)) payload bad.0 front bad.1 in
          let few = found.1 in
          absurd (none_at found.0 TextBad (omega (arith, few, size)) (subst (IsOfText (unfinished fs)) (sym opcode_is) (of_text_of (unfinished fs) info.op may is), found.2))
    ]

    of_close : info.op ≡ Close → BeginsText (drop 2 payload)
    of_close closes = elim (begins_or_first_bad (drop 2 payload)) [
      | inl begins ↦ begins
      | inr bad ↦
          let i = bad.0 in
          let inside = bad.1.within in
          let long : i + 3 ≤ m = omega (arith, inside, size, length-drop 2 payload) in
          let part : drop 2 (take (2 + (i + 1)) payload) ≡ take (i + 1) (drop 2 payload) = drop-take 2 (i + 1) payload in
          let sum : 2 + (i + 1) ≡ i + 3 = omega arith in
          let count : length (take (i + 1) (drop 2 payload)) ≡ i + 1 = length-take-le (i + 1) (drop 2 payload) (omega (arith, inside)) in
          let joined = take-append-drop (i + 1) (drop 2 payload) in
          let it : IsFirstBad (take (i + 1) (drop 2 payload)) i =
          first_bad_front (take (i + 1) (drop 2 payload)) (drop (i + 1) (drop 2 payload)) i (omega (arith, count)) (subst (λ (bs : List ℕ). IsFirstBad bs i) (sym joined) bad.1) in
          let ends : EndsBad (take (i + 1) (drop 2 payload)) = (i, sym count, it) in
          let ends_whole : EndsBad (drop 2 (take (i + 3) payload)) = subst EndsBad (sym part ∙ ap (λ (k : ℕ). drop 2 (take k payload)) sum) ends in
          absurd (none_at (i + 3) CloseReason long (opcode_is ∙ ap opcode closes, inl ends_whole))
    ]

    pub quiet_text : HasText (unfinished fs) info.op payload
    quiet_text = by info.op refl
      where
        own : (op : Op) → info.op ≡ op → is_of_text (unfinished fs) op ≡ true → BeginsText (payload_of (unfinished fs) ++ payload)
        own op is t = of_text (ap (λ (o : Op). is_of_text (unfinished fs) o) is ∙ t)

        by : (op : Op) → info.op ≡ op → HasText (unfinished fs) op payload
        by Continue is = own Continue is
        by Text is = own Text is
        by Binary is = own Binary is
        by Close is = of_close is
        by Ping is = own Ping is
        by Pong is = own Pong is
