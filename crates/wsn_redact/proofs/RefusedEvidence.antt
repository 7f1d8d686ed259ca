-- The evidence in a payload for which a stream is refused, and what is written for that payload.
use Rattle.std.proofs.Common.{◌≡◌, ℕ, suc, ◌+◌, ◌-◌, ◌<◌, ◌≤◌, ◌⊎◌, Bool, true, false, Option, None, Some, List, [], ◌∷◌, ◌++◌, length, take, drop, if◌then◌else◌, inl, inr, refl, sym, ap, ◌∙◌, subst, append-nil, append_assoc, length-append, length-drop, arith}
use Rattle.std.specs.Prelude.{◌↔◌, is_some}
use Rattle.std.proofs.lemmas.Bool.{cases_Bool, cond-true, cond-false}
use Rattle.std.proofs.lemmas.List.{drop_all, take-append-le, drop-append-le}
use Rattle.wsn_wire.specs.declared.endpoint.Role.{Role}
use Rattle.wsn_wire.specs.declared.opcode.Op.{Op}
use Rattle.wsn_wire.specs.declared.opcode.Op.TheVariants.{Continue, Text, Binary, Close, Ping, Pong}
use Rattle.wsn_wire.specs.declared.refusal.Reason.{Reason}
use Rattle.wsn_wire.specs.declared.refusal.Reason.TheVariants.{ReservedBits, CloseCode, CloseReason, TextBad, TextCut}
use Rattle.wsn_wire.specs.Frame.{Frame, opcode, first_byte, key_bytes, masked, wire_payload}
use Rattle.wsn_wire.specs.ReceivedHead.{mask_bit, opcode_field, encoded_length, len_form_at}
use Rattle.wsn_wire.proofs.FrameLemmas.{first_byte_fields}
use Rattle.wsn_text.specs.Utf8.{BeginsText, IsFirstBad}
use Rattle.wsn_text.proofs.Prefixes.{begins-nil, bad_ends}
use Rattle.wsn_text.proofs.LongestText.{before_bad}
use Rattle.wsn_rules.specs.declared.head_info.HeadInfo.{HeadInfo}
use Rattle.wsn_rules.specs.Limits.{Limits}
use Rattle.wsn_rules.specs.Evidence.{Evidence, EvidentByPayload, EndsBad, IsOfText, unmasked}
use Rattle.wsn_rules.specs.Evidence.Evidence.{ByFirst, BySecond, ByLength, ByPayload}
use Rattle.wsn_rules.specs.Group.{unfinished, payload_of}
use Rattle.wsn_rules.specs.Heads.{BeginsWithHead}
use Rattle.wsn_rules.proofs.BegunHeads.{same_parts, head_came, encodable_begun, begun_is}
use Rattle.wsn_rules.proofs.HeadsGoOn.{begins_two}
use Rattle.wsn_rules.proofs.MessageText.{text_from_opcode}
use Rattle.wsn_redact.specs.declared.redacted_payload.Redactor.{Redactor}
use Rattle.wsn_redact.specs.Dues.{due_of}
use Rattle.wsn_redact.specs.StandIns.{single_stand_in, IsRedacted, stood, due_after}
use Rattle.wsn_redact.specs.Redaction.{is_text, is_of_text, IsRedactedData, IsRedactedPayload, redacted_payload, zeros_for}
use Rattle.wsn_redact.specs.RedactedParts.{replaced, IsBadReason, KeepsIn, refused_part}
use Rattle.wsn_redact.proofs.StoodTexts.{stood-append, length-stood, stood_is}
use Rattle.wsn_redact.proofs.RedactedPayloads.{HasText, payload_is}
use Rattle.wsn_redact.proofs.KeptParts.{MayBegin, joined_split, payload_more}
use Rattle.wsn_wire.proofs.HeadLemmas.{close_from_opcode}

-- ---- the evidence is in the payload

pub unmasked_is : (key : Option (List ℕ)) (second : ℕ) (keys bytes : List ℕ) → mask_bit second ≡ is_some key → key_bytes key ≡ keys → wire_payload key bytes ≡ unmasked second keys bytes
unmasked_is None second keys bytes mask is = sym (cond-false (mask_bit second) (masked keys 0 bytes) bytes mask)
unmasked_is (Some key) second keys bytes mask is = ap (λ (ks : List ℕ). masked ks 0 bytes) is ∙ sym (cond-true (mask_bit second) (masked keys 0 bytes) bytes mask)

head_parts : (head following : List ℕ) (a b : ℕ) (len : List ℕ) → 2 ≤ length head → head ++ following ≡ a ∷ b ∷ len → (came : List ℕ) × (head ≡ a ∷ b ∷ came) × (len ≡ came ++ following)
head_parts [] following a b len long is = absurd (omega (arith, long))
head_parts (x ∷ []) following a b len long is = absurd (omega (arith, long))
head_parts (x ∷ y ∷ head) following a b len long is =
    let first : x ≡ a = cc in
    let second : y ≡ b = cc in
    let rest : head ++ following ≡ len = cc in
    (head, (λ i. first i ∷ second i ∷ head), sym rest)

module _ (role : Role) (limits : Limits) (fs : List Frame) (seen : List ℕ) (info : HeadInfo) (b : BeginsWithHead role limits fs seen info) (some : 0 < length b.following) where
  alone : BeginsWithHead role limits fs b.head info
  alone = record {
    head = b.head;
    following = [];
    whole = sym (append-nil b.head);
    offset = b.offset;
    encoded = b.encoded;
    key = b.key;
    form = b.form;
    size = b.size;
    has_no_evidence = b.has_no_evidence;
  }

  all : length seen ≡ length b.head + length b.following
  all = ap (λ (bs : List ℕ). length bs) b.whole ∙ length-append b.head b.following

  long : 2 ≤ length b.head
  long = begins_two role limits fs b.head info alone

  -- The evidence is in the payload, and the payload so far is no longer than the frame's.
  both : (reason : Reason) → Evidence role limits (unfinished fs) reason seen
      → EvidentByPayload (unfinished fs) reason (first_byte info.fin info.op) info.len (wire_payload info.key b.following) × (length b.following ≤ info.len)
  unfolding alone
  both reason (ByFirst first is row) = let size = ap (λ (bs : List ℕ). length bs) is in absurd (omega (arith, size, all, long, some))
  both reason (BySecond first second is row) = let size = ap (λ (bs : List ℕ). length bs) is in absurd (omega (arith, size, all, long, some))
  both reason (ByLength first second len is count row) =
      let parts = head_parts b.head b.following first second len long (sym b.whole ∙ is) in
      let came = head_came info [] first second parts.0 (encodable_begun role limits fs b.head info alone) (sym (begun_is role limits fs b.head info alone) ∙ parts.1) in
      let size : length len ≡ length parts.0 + length b.following = ap (λ (bs : List ℕ). length bs) parts.2 ∙ length-append parts.0 b.following in
      absurd (omega (arith, came, size, count, some))
  both reason (ByPayload p row) =
      let same = same_parts info b.following p.first p.second p.len p.key p.wire (encodable_begun role limits fs seen info b) (sym (begun_is role limits fs seen info b) ∙ p.whole) p.len_count p.key_counted in
      let payload : wire_payload info.key b.following ≡ unmasked p.second p.key p.wire =
      ap (λ (bs : List ℕ). wire_payload info.key bs) same.following_is ∙ unmasked_is info.key p.second p.key p.wire same.mask_is same.key_is in
      let count = ap (λ (bs : List ℕ). length bs) same.following_is in
      let len = same.len_is in
      let most = p.within in (
        subst (λ (bs : List ℕ). EvidentByPayload (unfinished fs) reason (first_byte info.fin info.op) info.len bs) (sym payload)
            (subst (λ (n : ℕ). EvidentByPayload (unfinished fs) reason (first_byte info.fin info.op) n (unmasked p.second p.key p.wire)) (sym same.len_is)
            (subst (λ (f : ℕ). EvidentByPayload (unfinished fs) reason f (encoded_length (len_form_at p.second) p.len) (unmasked p.second p.key p.wire)) (sym same.first_is) row)),
        omega (arith, count, len, most),
      )

  pub in_payload : (reason : Reason) → Evidence role limits (unfinished fs) reason seen → EvidentByPayload (unfinished fs) reason (first_byte info.fin info.op) info.len (wire_payload info.key b.following)
  in_payload reason evidence = (both reason evidence).0

  pub within_payload : (reason : Reason) → Evidence role limits (unfinished fs) reason seen → length b.following ≤ info.len
  within_payload reason evidence = (both reason evidence).1

-- ---- what is written for the payload

pub of_text_is : (group : List Frame) (op : Op) → MayBegin group op → IsOfText group (opcode op) → is_of_text group op ≡ true
of_text_is [] op may of_text = ap (λ (o : Op). is_of_text [] o) (text_from_opcode op of_text)
of_text_is (g ∷ group) Continue may of_text = ap is_text of_text.1
of_text_is (g ∷ group) Text may of_text = refl
of_text_is (g ∷ group) Binary may of_text = let none : g ∷ group ≡ [] = may.begins (inr refl) in absurd cc
of_text_is (g ∷ group) Close may of_text = let few = of_text.0 in absurd (omega (arith, few))
of_text_is (g ∷ group) Ping may of_text = let few = of_text.0 in absurd (omega (arith, few))
of_text_is (g ∷ group) Pong may of_text = let few = of_text.0 in absurd (omega (arith, few))

true_or_not : (c : Bool) → c ≡ true → c ≡ false → ⊥
true_or_not c is_on is_off = let both : true ≡ false = sym is_on ∙ is_off in cc

module _ (kept : Redactor) (group : List Frame) (op : Op) (before front : List ℕ) (last : ℕ) (bad wrong : Bool) (reason : Reason) (may : MayBegin group op)
    (same_op : kept.op ≡ op) (done : kept.done ≡ length before) (keeps : KeepsIn kept group op before) (is_bad : IsBadReason kept op (front ++ last ∷ []) bad) (is_wrong : wrong ≡ true ↔ (bad ≡ true) ⊎ (reason ≡ TextBad)) where
  abbrev evidence : List ℕ
  evidence = front ++ last ∷ []

  abbrev whole : List ℕ
  whole = before ++ (front ++ last ∷ [])

  -- What is written.
  abbrev part : List ℕ
  part = redacted_payload group op before ++ refused_part kept wrong front last

  right_is : wrong ≡ false → part ≡ redacted_payload group op whole
  right_is is_off =
      ap (λ (bs : List ℕ). redacted_payload group op before ++ bs) (cond-false wrong (replaced kept.op kept.text (due_of kept.due) kept.done front ++ single_stand_in last ∷ []) (replaced kept.op kept.text (due_of kept.due) kept.done evidence) is_off)
      ∙ ap (λ (o : Op). redacted_payload group op before ++ replaced o kept.text (due_of kept.due) kept.done evidence) same_op
      ∙ sym (payload_more kept group before evidence done op keeps)

  wrong_is : wrong ≡ true → part ≡ redacted_payload group op (before ++ front) ++ single_stand_in last ∷ []
  wrong_is is_on =
      ap (λ (bs : List ℕ). redacted_payload group op before ++ bs) (cond-true wrong (replaced kept.op kept.text (due_of kept.due) kept.done front ++ single_stand_in last ∷ []) (replaced kept.op kept.text (due_of kept.due) kept.done evidence) is_on)
      ∙ ap (λ (o : Op). redacted_payload group op before ++ (replaced o kept.text (due_of kept.due) kept.done front ++ single_stand_in last ∷ [])) same_op
      ∙ sym (append_assoc (redacted_payload group op before) (replaced op kept.text (due_of kept.due) kept.done front) (single_stand_in last ∷ []))
      ∙ ap (λ (bs : List ℕ). bs ++ single_stand_in last ∷ []) (sym (payload_more kept group before front done op keeps))

  -- It goes on as a text.
  right : wrong ≡ false → HasText group op whole → IsRedactedPayload group op whole part
  right is_off text = subst (IsRedactedPayload group op whole) (sym (right_is is_off)) (payload_is group op whole text)

  joined : whole ≡ (before ++ front) ++ last ∷ []
  joined = sym (append_assoc before front (last ∷ []))

  not_wrong : (bad ≡ false) → (reason ≡ TextBad → ⊥) → wrong ≡ false
  not_wrong good other = elim (cases_Bool wrong) [
    | inl is_on ↦ elim (is_wrong.0 is_on) [ inl b ↦ absurd (true_or_not bad b good) | inr r ↦ absurd (other r) ]
    | inr is_off ↦ is_off
  ]

  -- ---- a message's text

  wrong_text : (c : Bool) → c ≡ true → EndsBad (payload_of group ++ whole) → IsRedactedData c (payload_of group) whole ((if c then stood (due_after [] (payload_of group)) (before ++ front) else zeros_for (before ++ front)) ++ single_stand_in last ∷ [])
  wrong_text false is ends = absurd cc
  wrong_text true is ends =
      let earlier = payload_of group in
      let text_is : earlier ++ whole ≡ (earlier ++ (before ++ front)) ++ last ∷ [] = ap (λ (bs : List ℕ). earlier ++ bs) joined ∙ sym (append_assoc earlier (before ++ front) (last ∷ [])) in
      let begins : BeginsText (earlier ++ (before ++ front)) =
      before_bad (earlier ++ (before ++ front)) last ends.0 (subst (λ (bs : List ℕ). IsFirstBad bs ends.0) text_is ends.2) (ends.1 ∙ ap (λ (bs : List ℕ). length bs) text_is) in
      record {
        before = stood [] earlier;
        same_place = length-stood [] earlier;
        is = inr (record {
          front = earlier ++ (before ++ front);
          bad = last;
          front_redacted = stood [] (earlier ++ (before ++ front));
          text_is = text_is;
          goes_wrong = bad_ends (earlier ++ whole) ends.0 ends.2;
          is_front = stood_is (earlier ++ (before ++ front)) begins;
          redacted_is =
              sym (append_assoc (stood [] earlier) (stood (due_after [] earlier) (before ++ front)) (single_stand_in last ∷ []))
              ∙ ap (λ (bs : List ℕ). bs ++ single_stand_in last ∷ []) (sym (stood-append [] earlier (before ++ front)));
        });
      }

  of_text : is_of_text group op ≡ true → reason ≡ TextBad → EndsBad (payload_of group ++ whole) → IsRedactedPayload group op whole part
  of_text is textbad ends = subst (IsRedactedPayload group op whole) (sym (wrong_is (is_wrong.1 (inr textbad)))) (by op is)
    where
      by : (o : Op) → is_of_text group o ≡ true → IsRedactedPayload group o whole (redacted_payload group o (before ++ front) ++ single_stand_in last ∷ [])
      by Continue t = wrong_text (is_of_text group Continue) t ends
      by Text t = wrong_text (is_of_text group Text) t ends
      by _ t = absurd cc

  text_goes_on : is_of_text group op ≡ true → (reason ≡ TextBad → ⊥) → BeginsText (payload_of group ++ whole) → IsRedactedPayload group op whole part
  text_goes_on is other begins = by op refl is
    where
      by : (o : Op) → op ≡ o → is_of_text group o ≡ true → IsRedactedPayload group op whole part
      by Continue op_is t = right (not_wrong (subst (λ (o : Op). IsBadReason kept o evidence bad) op_is is_bad) other) (subst (λ (o : Op). HasText group o whole) (sym op_is) (λ _. begins))
      by Text op_is t = right (not_wrong (subst (λ (o : Op). IsBadReason kept o evidence bad) op_is is_bad) other) (subst (λ (o : Op). HasText group o whole) (sym op_is) (λ _. begins))
      by _ op_is t = absurd cc

  -- ---- a Close's reason

  module _ (closes : op ≡ Close) where
    own : (bad ≡ false) ↔ BeginsText (drop 2 whole)
    own =
        let k = subst (λ (o : Op). KeepsIn kept group o before) closes keeps in
        let says = subst (λ (o : Op). IsBadReason kept o evidence bad) closes is_bad (drop 2 before) k.1 in
        let same : drop 2 before ++ drop (2 - kept.done) evidence ≡ drop 2 whole = ap (λ (n : ℕ). drop 2 before ++ drop (2 - n) evidence) done ∙ sym (joined_split 2 before evidence).1 in
        subst (λ (bs : List ℕ). (bad ≡ false) ↔ BeginsText bs) same says

    reason_goes_on : (reason ≡ TextBad → ⊥) → BeginsText (drop 2 whole) → IsRedactedPayload group op whole part
    reason_goes_on other begins = right (not_wrong (own.1 begins) other) (subst (λ (o : Op). HasText group o whole) (sym closes) begins)

    reason_bad : EndsBad (drop 2 whole) → IsRedactedPayload group op whole part
    reason_bad ends =
        let not_text = bad_ends (drop 2 whole) ends.0 ends.2 in
        let is_wrong_now : wrong ≡ true = is_wrong.1 (inl (elim (cases_Bool bad) [ inl is_on ↦ is_on | inr is_off ↦ absurd (not_text (own.0 is_off)) ])) in
        let at = ends.1 in
        let size : length whole ≡ suc (length (before ++ front)) = ap (λ (bs : List ℕ). length bs) joined ∙ length-append (before ++ front) (last ∷ []) ∙ omega arith in
        let past : 2 ≤ length (before ++ front) = omega (arith, at, size, length-drop 2 whole) in
        let text_is : drop 2 whole ≡ drop 2 (before ++ front) ++ last ∷ [] = ap (λ (bs : List ℕ). drop 2 bs) joined ∙ drop-append-le 2 (before ++ front) (last ∷ []) past in
        let code : take 2 whole ≡ take 2 (before ++ front) = ap (λ (bs : List ℕ). take 2 bs) joined ∙ take-append-le 2 (before ++ front) (last ∷ []) past in
        let begins : BeginsText (drop 2 (before ++ front)) =
        before_bad (drop 2 (before ++ front)) last ends.0 (subst (λ (bs : List ℕ). IsFirstBad bs ends.0) text_is ends.2) (ends.1 ∙ ap (λ (bs : List ℕ). length bs) text_is) in
        let text = stood [] (drop 2 (before ++ front)) in
        let it : IsRedacted (drop 2 whole) (text ++ single_stand_in last ∷ []) = inr (record {
          front = drop 2 (before ++ front);
          bad = last;
          front_redacted = text;
          text_is = text_is;
          goes_wrong = not_text;
          is_front = stood_is (drop 2 (before ++ front)) begins;
          redacted_is = refl;
        }) in
        let all_written : part ≡ take 2 whole ++ (text ++ single_stand_in last ∷ []) =
        wrong_is is_wrong_now ∙ ap (λ (o : Op). redacted_payload group o (before ++ front) ++ single_stand_in last ∷ []) closes
        ∙ append_assoc (take 2 (before ++ front)) text (single_stand_in last ∷ []) ∙ ap (λ (bs : List ℕ). bs ++ (text ++ single_stand_in last ∷ [])) (sym code) in
        subst (λ (o : Op). IsRedactedPayload group o whole part) (sym closes) (text ++ single_stand_in last ∷ [], it, all_written)

  -- ---- each reason

  module _ (fin : Bool) (total : ℕ) where
    field : opcode_field (first_byte fin op) ≡ opcode op
    field = (first_byte_fields fin op).opcode_is

    is_close_op : opcode_field (first_byte fin op) ≡ 8 → op ≡ Close
    is_close_op is = close_from_opcode op (sym field ∙ is)

    is_text_op : IsOfText group (opcode_field (first_byte fin op)) → is_of_text group op ≡ true
    is_text_op is = of_text_is group op may (subst (IsOfText group) field is)

    pub refused_payload : (r : Reason) → reason ≡ r → EvidentByPayload group r (first_byte fin op) total whole → IsRedactedPayload group op whole part
    refused_payload TextBad is e = of_text (is_text_op e.0) is e.1
    refused_payload TextCut is e = text_goes_on (is_text_op e.0) (λ also. let both : TextCut ≡ TextBad = sym is ∙ also in cc) e.3.0
    refused_payload CloseCode is e =
        let size = e.1 in
        reason_goes_on (is_close_op e.0) (λ also. let both : CloseCode ≡ TextBad = sym is ∙ also in cc) (subst BeginsText (sym (drop_all 2 whole (omega (arith, size)))) begins-nil)
    refused_payload CloseReason is e = elim e.1 [
      | inl ends ↦ reason_bad (is_close_op e.0) ends
      | inr inside ↦ reason_goes_on (is_close_op e.0) (λ also. let both : CloseReason ≡ TextBad = sym is ∙ also in cc) inside.1.0
    ]
    refused_payload ReservedBits is e = absurd e
    refused_payload _ is e = absurd e
