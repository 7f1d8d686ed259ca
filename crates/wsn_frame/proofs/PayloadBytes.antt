-- The evidence in a head and part of its payload, and in one more chunk of payload.
use Rattle.std.proofs.Common.{◌≡◌, ℕ, ◌+◌, ◌<◌, ◌≤◌, ◌⊎◌, Bool, cond, Option, None, Some, is_some, List, [], ◌∷◌, ◌++◌, length, inl, inr, refl, sym, ap, ◌∙◌, subst, arith, append_assoc, append-nil}
use Rattle.std.proofs.lemmas.Bool.{cases_eq}
use Rattle.wsn_wire.specs.declared.endpoint.Role.{Role}
use Rattle.wsn_wire.specs.declared.refusal.Reason.{Reason}
use Rattle.wsn_wire.specs.declared.refusal.Reason.TheVariants.{CloseCode, CloseReason, TextBad, TextCut}
use Rattle.wsn_wire.specs.declared.length_encoding.LenForm.{LenForm}
use Rattle.wsn_wire.specs.Frame.{Frame, first_byte, key_bytes, masked}
use Rattle.wsn_wire.specs.ReceivedHead.{mask_bit, opcode_field, len_form_at, length_count, encoded_length, key_count}
use Rattle.wsn_wire.specs.Refusal.{number_of}
use Rattle.wsn_wire.proofs.FrameLemmas.{key_bytes_count}
use Rattle.wsn_frame.specs.declared.heads.Head.{Head}
use Rattle.wsn_frame.specs.declared.payload_check.PayloadCheck.{PayloadCheck}
use Rattle.wsn_frame.specs.declared.payload_check.PayloadCheck.TheVariants.{Free, Text, Close}
use Rattle.wsn_rules.specs.Limits.{Limits}
use Rattle.wsn_rules.specs.Group.{payload_of}
use Rattle.wsn_rules.specs.Evidence.{IsOfText, EvidentByPayload, unmasked, Evidence}
use Rattle.wsn_rules.specs.Evidence.Evidence.{ByPayload}
use Rattle.wsn_frame.specs.PartialHeads.{IsEvidentLast, IsHead}
use Rattle.wsn_frame.specs.PayloadChecks.{HasChecked}
use Rattle.wsn_frame.specs.Payloads.{unmasked_by, HoldsPayload}
use Rattle.wsn_rules.proofs.MessageText.{begins_not_bad}
use Rattle.wsn_rules.proofs.LeastEvident.{same_number}
use Rattle.wsn_rules.proofs.Stages.{payload_shows}

-- Unmasking by the MASK bit is unmasking by the key.
pub unmasked-key : (second : ℕ) (key : Option (List ℕ)) (wire : List ℕ) → mask_bit second ≡ is_some key → unmasked second (key_bytes key) wire ≡ unmasked_by key 0 wire
unmasked-key second None wire is = ap (λ (b : Bool). cond b (masked [] 0 wire) wire) is
unmasked-key second (Some key) wire is = ap (λ (b : Bool). cond b (masked key 0 wire) wire) is

module _ (role : Role) (limits : Limits) (group : List Frame) (head : Head) (head_bytes : List ℕ) (h : IsHead role limits group head head_bytes) where
  abbrev first_of : ℕ
  first_of = first_byte head.first.fin head.first.op

  pub with_payload : (wire : List ℕ) → head_bytes ++ wire ≡ first_of ∷ h.second ∷ (h.lengths ++ (key_bytes head.key ++ wire))
  with_payload wire = ap (λ (bs : List ℕ). bs ++ wire) h.whole ∙ ap (λ (bs : List ℕ). first_of ∷ h.second ∷ bs) (append_assoc h.lengths (key_bytes head.key) wire)

  keyed : length (key_bytes head.key) ≡ key_count h.second
  keyed = key_bytes_count head.key h.of_four ∙ ap (λ (b : Bool). cond b 4 0) (sym h.masked)

  counted_is : length h.lengths ≡ length_count (len_form_at h.second)
  counted_is = h.counted ∙ ap length_count h.encoded

  reported_is : head.len ≡ encoded_length (len_form_at h.second) h.lengths
  reported_is = h.reported ∙ ap (λ (f : LenForm). encoded_length f h.lengths) h.encoded

  -- Evidence in the payload so far is evidence in the frame.
  pub payload_evident : (wire : List ℕ) (reason : Reason) → length wire ≤ head.len → EvidentByPayload group reason first_of head.len (unmasked_by head.key 0 wire) → Evidence role limits group reason (head_bytes ++ wire)
  payload_evident wire reason within row =
      ByPayload (record {
        first = first_of;
        second = h.second;
        len = h.lengths;
        key = key_bytes head.key;
        wire = wire;
        whole = with_payload wire;
        len_count = counted_is;
        key_counted = keyed;
        within = let reported = reported_is in omega arith;
      })
      (subst (λ (total : ℕ). EvidentByPayload group reason first_of total (unmasked h.second (key_bytes head.key) wire)) reported_is
      (subst (λ (payload : List ℕ). EvidentByPayload group reason first_of head.len payload) (sym (unmasked-key h.second head.key wire h.masked)) row))

  -- Once there is some payload, all evidence is in it.
  pub evident_by_payload : (wire : List ℕ) (reason : Reason) → 0 < length wire → Evidence role limits group reason (head_bytes ++ wire) → EvidentByPayload group reason first_of head.len (unmasked_by head.key 0 wire)
  evident_by_payload wire reason some evidence =
      let there = subst (λ (bs : List ℕ). Evidence role limits group reason bs) (with_payload wire) evidence in
      let row = payload_shows role limits group reason first_of h.second h.lengths (key_bytes head.key) wire counted_is keyed (omega arith) there in
      subst (λ (total : ℕ). EvidentByPayload group reason first_of total (unmasked_by head.key 0 wire)) (sym reported_is)
      (subst (λ (payload : List ℕ). EvidentByPayload group reason first_of (encoded_length (len_form_at h.second) h.lengths) payload) (unmasked-key h.second head.key wire h.masked) row)

-- ---- before the payload

-- A payload of which no byte has come is evidence for no refusal.
pub quiet_start : (group : List Frame) (first total : ℕ) (check : PayloadCheck) → HasChecked group first check [] → 0 < total → (reason : Reason) → EvidentByPayload group reason first total [] → ⊥
quiet_start group first total check checked some CloseCode row = let none : 0 ≡ 2 = row.1 in absurd (omega arith)
quiet_start group first total check checked some CloseReason row =
    elim row.1 [
      | inl bad ↦ let none : bad.0 + 1 ≡ 0 = bad.1 in absurd (omega arith)
      | inr cut ↦ let none : 0 ≡ total = cut.0 in absurd (omega arith)
    ]
quiet_start group first total check checked some TextBad row = text check checked
  where
    no_close : (gs : List Frame) → opcode_field first ≡ 8 → IsOfText gs (opcode_field first) → ⊥
    no_close [] is of_text = let both : 1 ≡ 8 = sym of_text ∙ is in absurd (omega arith)
    no_close (g ∷ gs) is of_text = let few = of_text.0 in absurd (omega arith)

    text : (c : PayloadCheck) → HasChecked group first c [] → ⊥
    text Free h = h.0 row.0
    text (Text utf8) h = begins_not_bad (payload_of group) [] 0 h.2 row.1
    text (Close body) h = no_close group h.0 row.0
quiet_start group first total check checked some TextCut row = let none : 0 ≡ total = row.2 in absurd (omega arith)
quiet_start group first total check checked some reason row = row

text_cut_or_not : (reason : Reason) → (reason ≡ TextCut) ⊎ (reason ≡ TextCut → ⊥)
text_cut_or_not reason =
    elim (cases_eq (number_of reason) 16) [
      | inl same ↦ inl (same_number reason TextCut same)
      | inr other ↦ inr (λ is. other (ap number_of is))
    ]

pub unmasked_by-nil : (key : Option (List ℕ)) → unmasked_by key 0 [] ≡ []
unmasked_by-nil None = refl
unmasked_by-nil (Some key) = refl

module _ (role : Role) (limits : Limits) (group : List Frame) (head : Head) (head_bytes : List ℕ) (h : IsHead role limits group head head_bytes) (check : PayloadCheck)
    (checked : HasChecked group (first_byte head.first.fin head.first.op) check []) where
  -- A head, if the empty payload so far is evidence for no refusal.
  holds_nothing : ((reason : Reason) → EvidentByPayload group reason (first_byte head.first.fin head.first.op) head.len [] → ⊥) → HoldsPayload role limits group head check [] head_bytes
  holds_nothing quiet = record {
    head_bytes = head_bytes;
    whole = sym (append-nil head_bytes);
    is_head = h;
    in_bytes = tt;
    checked = subst (λ (payload : List ℕ). HasChecked group (first_byte head.first.fin head.first.op) check payload) (sym (unmasked_by-nil head.key)) checked;
    has_no_evidence = record { none = λ seen later reason is evidence. quiet reason (h.has_no_evidence seen later reason is evidence).1 };
  }

  pub starts : 0 < head.len → HoldsPayload role limits group head check [] head_bytes
  starts some = holds_nothing (quiet_start group (first_byte head.first.fin head.first.op) head.len check checked some)

  -- An empty payload that doesn't cut the text, and one that does.
  pub starts_empty : head.len ≡ 0 → (EvidentByPayload group TextCut (first_byte head.first.fin head.first.op) 0 [] → ⊥)
      → ((reason : Reason) → (reason ≡ TextCut → ⊥) → EvidentByPayload group reason (first_byte head.first.fin head.first.op) 0 [] → ⊥) → HoldsPayload role limits group head check [] head_bytes
  starts_empty empty no_cut others = holds_nothing quiet
    where
      quiet : (reason : Reason) → EvidentByPayload group reason (first_byte head.first.fin head.first.op) head.len [] → ⊥
      quiet reason row =
          let there = subst (λ (total : ℕ). EvidentByPayload group reason (first_byte head.first.fin head.first.op) total []) empty row in
          elim (text_cut_or_not reason) [
            | inl is ↦ no_cut (subst (λ (r : Reason). EvidentByPayload group r (first_byte head.first.fin head.first.op) 0 []) is there)
            | inr other ↦ others reason other there
          ]

  pub cut_at_start : head.len ≡ 0 → EvidentByPayload group TextCut (first_byte head.first.fin head.first.op) 0 []
      → ((reason : Reason) → (reason ≡ TextCut → ⊥) → EvidentByPayload group reason (first_byte head.first.fin head.first.op) 0 [] → ⊥) → IsEvidentLast role limits group TextCut head_bytes
  cut_at_start empty cut others = record {
    before = λ seen later r some is evidence. some (h.has_no_evidence seen later r is evidence).0;
    is_evident =
        subst (λ (bs : List ℕ). Evidence role limits group TextCut bs) (append-nil head_bytes)
        (payload_evident role limits group head head_bytes h [] TextCut (omega arith)
        (subst (λ (payload : List ℕ). EvidentByPayload group TextCut (first_byte head.first.fin head.first.op) head.len payload) (sym (unmasked_by-nil head.key))
        (subst (λ (total : ℕ). EvidentByPayload group TextCut (first_byte head.first.fin head.first.op) total []) (sym empty) cut)));
    least = λ r evidence. least r (h.has_no_evidence head_bytes [] r (sym (append-nil head_bytes)) evidence).1;
  }
    where
      least : (r : Reason) → EvidentByPayload group r (first_byte head.first.fin head.first.op) head.len [] → number_of TextCut ≤ number_of r
      least r row =
          elim (text_cut_or_not r) [
            | inl is ↦ let same : number_of r ≡ 16 = ap number_of is in omega arith
            | inr other ↦ absurd (others r other (subst (λ (total : ℕ). EvidentByPayload group r (first_byte head.first.fin head.first.op) total []) empty row))
          ]
