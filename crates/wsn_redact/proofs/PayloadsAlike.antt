-- A redacted payload is evidence for the same refusals as the payload.
use Rattle.std.proofs.Common.{◌≡◌, ℕ, ◌+◌, Bool, true, false, List, [], ◌∷◌, ◌++◌, length, take, drop, inl, inr, refl, sym, ap, ◌∙◌, subst, append-nil, append_assoc, length-append, arith}
use Rattle.std.specs.Prelude.{◌↔◌}
use Rattle.std.proofs.lemmas.Bool.{cases_lt}
use Rattle.std.proofs.lemmas.List.{take_all, drop_all, take_at, drop_at, take-append-le, length-take-le}
use Rattle.wsn_wire.specs.declared.opcode.Op.{Op}
use Rattle.wsn_wire.specs.declared.opcode.Op.TheVariants.{Continue, Text, Close}
use Rattle.wsn_wire.specs.declared.refusal.Reason.{Reason}
use Rattle.wsn_wire.specs.declared.refusal.Reason.TheVariants.{CloseCode, CloseReason, TextBad, TextCut}
use Rattle.wsn_wire.specs.Frame.{Frame, opcode, first_byte}
use Rattle.wsn_wire.specs.ReceivedHead.{opcode_field}
use Rattle.wsn_wire.proofs.FrameLemmas.{first_byte_fields, fronts_agree}
use Rattle.wsn_text.specs.Utf8.{BeginsText}
use Rattle.wsn_text.proofs.Prefixes.{begins_take, bad_ends}
use Rattle.wsn_rules.specs.Evidence.{EvidentByPayload, EndsBad, EndsInside, IsOfText}
use Rattle.wsn_rules.specs.Group.{first_op, payload_of}
use Rattle.wsn_redact.specs.StandIns.{single_stand_in, IsRedactedToBad, IsRedacted, stood, due_after}
use Rattle.wsn_redact.specs.Redaction.{is_text, is_of_text, IsRedactedData, IsRedactedBody, IsRedactedPayload}
use Rattle.wsn_redact.proofs.StoodTexts.{stood-append, length-stood, is_stood, redacted_begins, redacted_length, one_end}
use Rattle.wsn_redact.proofs.RedactedPayloads.{payload_length}
use Rattle.wsn_redact.proofs.RefusedEvidence.{of_text_is}
use Rattle.wsn_frame.proofs.HeadsAtOnce.{no_items}
use Rattle.wsn_redact.proofs.RedactedEnds.{last_of}
use Rattle.wsn_redact.proofs.KeptParts.{MayBegin}
use Rattle.std.specs.Int.{from_be_bytes, w16}
use Rattle.wsn_text.specs.CloseBody.{IsAcceptedCode}
use Rattle.wsn_redact.proofs.RedactedVerdicts.{SameGroup}
use Rattle.wsn_redact.proofs.TextsStay.{begins_alike, text_alike}
use Rattle.wsn_wire.proofs.HeadLemmas.{close_from_opcode}

-- ---- texts

-- A text that goes wrong at its last byte, in either direction.
pub bad_forth : (text redacted : List ℕ) → IsRedacted text redacted → EndsBad text → EndsBad redacted
bad_forth text redacted (inl r) bad = absurd (bad_ends text bad.0 bad.2 (redacted_begins text redacted r))
bad_forth text redacted (inr r) bad =
    let front = r.front_redacted in
    let last = single_stand_in r.bad in
    let all : redacted ≡ front ++ last ∷ [] = r.redacted_is in
    let n = length front in
    let size : length redacted ≡ n + 1 = ap (λ (bs : List ℕ). length bs) all ∙ length-append front (last ∷ []) in
    let whole : take (n + 1) redacted ≡ redacted = take_all (n + 1) redacted (omega (arith, size)) in
    let begins : BeginsText front = (begins_alike r.front front (inl r.is_front)).0 (redacted_begins r.front front r.is_front) in
    let wrong : BeginsText redacted → ⊥ = λ good. bad_ends text bad.0 bad.2 ((begins_alike text redacted (inr r)).1 good) in (
      n,
      sym size,
      record {
        within = omega (arith, size);
        bad = λ good. wrong (subst BeginsText whole good);
        least = λ j less. subst BeginsText (sym (ap (λ (bs : List ℕ). take (j + 1) bs) all ∙ take-append-le (j + 1) front (last ∷ []) (omega (arith, less)))) (begins_take (j + 1) front begins);
      },
    )

pub bad_back : (text redacted : List ℕ) → IsRedacted text redacted → EndsBad redacted → EndsBad text
bad_back text redacted (inl r) bad = absurd (bad_ends redacted bad.0 bad.2 ((begins_alike text redacted (inl r)).0 (redacted_begins text redacted r)))
bad_back text redacted (inr r) bad =
    let front = r.front in
    let all : text ≡ front ++ r.bad ∷ [] = r.text_is in
    let n = length front in
    let size : length text ≡ n + 1 = ap (λ (bs : List ℕ). length bs) all ∙ length-append front (r.bad ∷ []) in
    let whole : take (n + 1) text ≡ text = take_all (n + 1) text (omega (arith, size)) in
    let begins : BeginsText front = redacted_begins front r.front_redacted r.is_front in (
      n,
      sym size,
      record {
        within = omega (arith, size);
        bad = λ good. r.goes_wrong (subst BeginsText whole good);
        least = λ j less. subst BeginsText (sym (ap (λ (bs : List ℕ). take (j + 1) bs) all ∙ take-append-le (j + 1) front (r.bad ∷ []) (omega (arith, less)))) (begins_take (j + 1) front begins);
      },
    )

pub bad_alike : (text redacted : List ℕ) → IsRedacted text redacted → EndsBad text ↔ EndsBad redacted
bad_alike text redacted r = (bad_forth text redacted r, bad_back text redacted r)

pub inside_alike : (text redacted : List ℕ) → IsRedacted text redacted → EndsInside text ↔ EndsInside redacted
inside_alike text redacted r =
    let b = begins_alike text redacted r in
    let t = text_alike text redacted r in
    (λ e. (b.0 e.0, λ whole. e.1 (t.1 whole)), λ e. (b.1 e.0, λ whole. e.1 (t.0 whole)))

-- ---- a part of a text, after the earlier bytes, which begin text

nothing_bad : (earlier redacted : List ℕ) → BeginsText earlier → IsRedactedToBad (earlier ++ []) redacted → ⊥
nothing_bad earlier redacted begins r = r.goes_wrong (subst BeginsText (sym (append-nil earlier)) begins)

-- What is before it in the whole text redacted.
pub before_is : (earlier part before redacted : List ℕ) → BeginsText earlier → length before ≡ length earlier → IsRedacted (earlier ++ part) (before ++ redacted) → before ≡ stood [] earlier
before_is earlier part before redacted begins same (inl r) =
    let all : before ++ redacted ≡ stood [] earlier ++ stood (due_after [] earlier) part = is_stood (earlier ++ part) (before ++ redacted) r ∙ stood-append [] earlier part in
    (fronts_agree before (stood [] earlier) redacted (stood (due_after [] earlier) part) (same ∙ sym (length-stood [] earlier)) all).0
before_is earlier part before redacted begins same (inr r) = by part refl
  where
    by : (bytes : List ℕ) → part ≡ bytes → before ≡ stood [] earlier
    by [] none = absurd (nothing_bad earlier (before ++ redacted) begins (subst (λ (bs : List ℕ). IsRedactedToBad (earlier ++ bs) (before ++ redacted)) none r))
    by (b ∷ bytes) some =
        let l = last_of (b ∷ bytes) (omega arith) in
        let text : r.front ++ r.bad ∷ [] ≡ (earlier ++ l.0) ++ l.1 ∷ [] = sym r.text_is ∙ ap (λ (bs : List ℕ). earlier ++ bs) (some ∙ l.2) ∙ sym (append_assoc earlier l.0 (l.1 ∷ [])) in
        let front : r.front ≡ earlier ++ l.0 = (one_end r.front (earlier ++ l.0) r.bad l.1 text).0 in
        let written : r.front_redacted ≡ stood [] earlier ++ stood (due_after [] earlier) l.0 = is_stood r.front r.front_redacted r.is_front ∙ ap (λ (bs : List ℕ). stood [] bs) front ∙ stood-append [] earlier l.0 in
        let all : before ++ redacted ≡ stood [] earlier ++ (stood (due_after [] earlier) l.0 ++ single_stand_in r.bad ∷ []) =
        r.redacted_is ∙ ap (λ (bs : List ℕ). bs ++ single_stand_in r.bad ∷ []) written ∙ append_assoc (stood [] earlier) (stood (due_after [] earlier) l.0) (single_stand_in r.bad ∷ []) in
        (fronts_agree before (stood [] earlier) redacted (stood (due_after [] earlier) l.0 ++ single_stand_in r.bad ∷ []) (same ∙ sym (length-stood [] earlier)) all).0

data_part : (c : Bool) (earlier part redacted : List ℕ) → c ≡ true → BeginsText earlier → IsRedactedData c earlier part redacted → IsRedacted (earlier ++ part) (stood [] earlier ++ redacted)
data_part false earlier part redacted is begins r = absurd cc
data_part true earlier part redacted is begins r = subst (λ (bs : List ℕ). IsRedacted (earlier ++ part) (bs ++ redacted)) (before_is earlier part r.before redacted begins r.same_place r.is) r.is

pub payload_part : (group : List Frame) (op : Op) (part redacted : List ℕ) → is_of_text group op ≡ true → BeginsText (payload_of group) → IsRedactedPayload group op part redacted → IsRedacted (payload_of group ++ part) (stood [] (payload_of group) ++ redacted)
payload_part group Continue part redacted is begins r = data_part (is_of_text group Continue) (payload_of group) part redacted is begins r
payload_part group Text part redacted is begins r = data_part (is_of_text group Text) (payload_of group) part redacted is begins r
payload_part group _ part redacted is begins r = absurd cc

-- ---- a Close's body

pub record IsBodyOf (body redacted : List ℕ) : Type 0 where
  pub code : take 2 redacted ≡ take 2 body
  pub reason : IsRedacted (drop 2 body) (drop 2 redacted)

pub body_of : (body redacted : List ℕ) → IsRedactedBody body redacted → IsBodyOf body redacted
body_of body redacted (reason, r, is) =
    elim (cases_lt (length body) 2) [
      | inl short ↦
          let none : drop 2 body ≡ [] = drop_all 2 body (omega (arith, short)) in
          let count = redacted_length (drop 2 body) reason r in
          let empty : reason ≡ [] = no_items reason (omega (arith, count, ap (λ (bs : List ℕ). length bs) none)) in
          let all : redacted ≡ body = is ∙ (λ i. take_all 2 body (omega (arith, short)) i ++ empty i) ∙ append-nil body in
          record { code = ap (λ (bs : List ℕ). take 2 bs) all; reason = subst (λ (bs : List ℕ). IsRedacted (drop 2 body) bs) (empty ∙ sym none ∙ sym (ap (λ (bs : List ℕ). drop 2 bs) all)) r }
      | inr long ↦
          let size = length-take-le 2 body long in
          record {
            code = ap (λ (bs : List ℕ). take 2 bs) is ∙ take_at (take 2 body) reason 2 size;
            reason = subst (λ (bs : List ℕ). IsRedacted (drop 2 body) bs) (sym (ap (λ (bs : List ℕ). drop 2 bs) is ∙ drop_at (take 2 body) reason 2 size)) r;
          }
    ]

-- ---- the open message

-- A text message's frames are those of one redacted, and the other way round.
pub of_text_forth : (group redacted : List Frame) (n : ℕ) → SameGroup group redacted → IsOfText group n → IsOfText redacted n
of_text_forth [] redacted n same is = by redacted same.count
  where
    by : (ys : List Frame) → length ys ≡ 0 → IsOfText ys n
    by [] count = is
    by (y ∷ ys) count = absurd (omega (arith, count))
of_text_forth (x ∷ xs) redacted n same is = by redacted same.count same.first
  where
    by : (ys : List Frame) → length ys ≡ length (x ∷ xs) → first_op ys ≡ x.op → IsOfText ys n
    by [] count first = absurd (omega (arith, count))
    by (y ∷ ys) count first = (is.0, first ∙ is.1)

pub of_text_back : (group redacted : List Frame) (n : ℕ) → SameGroup group redacted → IsOfText redacted n → IsOfText group n
of_text_back group [] n same is = by group same.count
  where
    by : (xs : List Frame) → 0 ≡ length xs → IsOfText xs n
    by [] count = is
    by (x ∷ xs) count = absurd (omega (arith, count))
of_text_back group (y ∷ ys) n same is = by group same.count same.first
  where
    by : (xs : List Frame) → length (y ∷ ys) ≡ length xs → y.op ≡ first_op xs → IsOfText xs n
    by [] count first = absurd (omega (arith, count))
    by (x ∷ xs) count first = (is.0, sym first ∙ is.1)

-- Its text is redacted.
pub text_of_text : (group redacted : List Frame) (n : ℕ) → SameGroup group redacted → IsOfText group n → payload_of redacted ≡ stood [] (payload_of group)
text_of_text [] redacted n same is = by redacted same.count
  where
    by : (ys : List Frame) → length ys ≡ 0 → payload_of ys ≡ []
    by [] count = refl
    by (y ∷ ys) count = absurd (omega (arith, count))
text_of_text (x ∷ xs) redacted n same is = same.text (ap is_text is.1)

-- ---- the evidence in a payload

module _ (group redacted : List Frame) (same : SameGroup group redacted) (op : Op) (may : MayBegin group op) (begins : is_of_text group op ≡ true → BeginsText (payload_of group)) (payload part : List ℕ) (r : IsRedactedPayload group op payload part) (fin : Bool) (total : ℕ) where
  abbrev first : ℕ
  first = first_byte fin op

  field : opcode_field (first_byte fin op) ≡ opcode op
  field = (first_byte_fields fin op).opcode_is

  size : length part ≡ length payload
  size = payload_length group op payload part r

  body : opcode_field (first_byte fin op) ≡ 8 → IsBodyOf payload part
  body is = by op (close_from_opcode op (sym field ∙ is)) r
    where
      by : (o : Op) → o ≡ Close → IsRedactedPayload group o payload part → IsBodyOf payload part
      by Close closes given = body_of payload part given
      by _ closes given = absurd cc

  code_same : opcode_field (first_byte fin op) ≡ 8 → length payload ≡ 2 → part ≡ payload
  code_same is two =
      sym (take_all 2 part (omega (arith, two, size))) ∙ (body is).code ∙ take_all 2 payload (omega (arith, two))

  whole_text : IsOfText group (opcode_field (first_byte fin op)) → IsRedacted (payload_of group ++ payload) (payload_of redacted ++ part)
  whole_text is =
      let own = of_text_is group op may (subst (IsOfText group) field is) in
      subst (λ (bs : List ℕ). IsRedacted (payload_of group ++ payload) (bs ++ part)) (sym (text_of_text group redacted (opcode_field (first_byte fin op)) same is)) (payload_part group op payload part own (begins own) r)

  pub evident_forth : (reason : Reason) → EvidentByPayload group reason (first_byte fin op) total payload → EvidentByPayload redacted reason (first_byte fin op) total part
  evident_forth CloseCode e = (e.0, size ∙ e.1, subst (λ (bs : List ℕ). ¬ (IsAcceptedCode (from_be_bytes w16 bs))) (sym (code_same e.0 e.1)) e.2)
  evident_forth CloseReason e = (
    e.0,
    elim e.1 [
      | inl bad ↦ inl (bad_forth (drop 2 payload) (drop 2 part) (body e.0).reason bad)
      | inr inside ↦ inr (size ∙ inside.0, (inside_alike (drop 2 payload) (drop 2 part) (body e.0).reason).0 inside.1)
    ],
  )
  evident_forth TextBad e = (of_text_forth group redacted (opcode_field (first_byte fin op)) same e.0, bad_forth (payload_of group ++ payload) (payload_of redacted ++ part) (whole_text e.0) e.1)
  evident_forth TextCut e = (of_text_forth group redacted (opcode_field (first_byte fin op)) same e.0, e.1, size ∙ e.2, (inside_alike (payload_of group ++ payload) (payload_of redacted ++ part) (whole_text e.0)).0 e.3)
  evident_forth _ e = absurd e

  pub evident_back : (reason : Reason) → EvidentByPayload redacted reason (first_byte fin op) total part → EvidentByPayload group reason (first_byte fin op) total payload
  evident_back CloseCode e = (e.0, sym size ∙ e.1, subst (λ (bs : List ℕ). ¬ (IsAcceptedCode (from_be_bytes w16 bs))) (code_same e.0 (sym size ∙ e.1)) e.2)
  evident_back CloseReason e = (
    e.0,
    elim e.1 [
      | inl bad ↦ inl (bad_back (drop 2 payload) (drop 2 part) (body e.0).reason bad)
      | inr inside ↦ inr (sym size ∙ inside.0, (inside_alike (drop 2 payload) (drop 2 part) (body e.0).reason).1 inside.1)
    ],
  )
  evident_back TextBad e = let own = of_text_back group redacted (opcode_field (first_byte fin op)) same e.0 in (own, bad_back (payload_of group ++ payload) (payload_of redacted ++ part) (whole_text own) e.1)
  evident_back TextCut e = let own = of_text_back group redacted (opcode_field (first_byte fin op)) same e.0 in (own, e.1, sym size ∙ e.2, (inside_alike (payload_of group ++ payload) (payload_of redacted ++ part) (whole_text own)).1 e.3)
  evident_back _ e = absurd e
