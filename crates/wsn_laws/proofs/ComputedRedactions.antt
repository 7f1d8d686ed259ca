-- The redaction of a stream that is written out, whose rest after the frames is no more than a byte.
use Rattle.std.proofs.Common.{◌≡◌, ℕ, ◌+◌, ◌<◌, ◌≤◌, ◌⊎◌, Bool, true, false, List, [], ◌∷◌, ◌++◌, length, take, drop, inl, inr, nat_lt, refl, sym, ap, ◌∙◌, subst, arith, append-nil, length-append}
use Rattle.std.proofs.lemmas.List.{take_at}
use Rattle.wsn_wire.specs.declared.refusal.Reason.{Reason}
use Rattle.wsn_rules.specs.Evidence.{Evidence, HasNoEvidence}
use Rattle.wsn_rules.specs.Group.{unfinished}
use Rattle.wsn_frame.proofs.HeadsAtOnce.{no_items}
unfoldable pub use Rattle.wsn_text.proofs.Numbers.{less_or_not, same_or_not}
use Rattle.wsn_text.proofs.Decide.{nothing, begun, four_long, three_long, after_first, after_byte, following, fill, begins_by, begins_decided, text_by, text_decided}
use Rattle.wsn_text.proofs.Prefixes.{begins_or_bad, begins_or_first_bad}
use Rattle.wsn_rules.proofs.MessageText.{accepted_code_or_not}
use Rattle.wsn_rules.proofs.DecidedRows.{both, both_in_turn, either, denied, less, at_most, bool_is, role_is, only_shortest, no_group, limit_is, is_long, is_short_one, not_minimal, top_bit, op_is_text, of_text, ends_bad, ends_inside, by_first, by_second, by_length, by_payload}
use Rattle.wsn_rules.proofs.DecidedEvidence.{into_payload, first_evidence, second_evidence, length_evidence, payload_evidence, evidence_decided}
use Rattle.wsn_rules.proofs.LeastEvident.{least_or_none, reason_at, numbered, least_reason, front_decided, least_front}
use Rattle.std.proofs.lemmas.Bool.{ltb-true}
use Rattle.wsn_wire.specs.declared.endpoint.Role.{Role}
use Rattle.wsn_wire.specs.Frame.{Frame, stream}
use Rattle.wsn_text.specs.Utf8.{BeginsText}
use Rattle.wsn_rules.specs.declared.head_info.HeadInfo.{HeadInfo}
use Rattle.wsn_rules.specs.declared.verdict.Verdict.{Verdict}
use Rattle.wsn_rules.specs.declared.verdict.Verdict.TheVariants.{Accepted, Cut, Refused}
use Rattle.wsn_rules.specs.Heads.{BeginsWithHead}
use Rattle.wsn_rules.specs.Limits.{Limits}
use Rattle.wsn_rules.specs.Verdict.{IsVerdict, judged_bytes}
use Rattle.wsn_rules.proofs.Computed.{found, in_range, all_bytes, range_by_test, bytes_by_test}
use Rattle.wsn_rules.proofs.HeadsGoOn.{begins_two}
use Rattle.wsn_rules.proofs.OneVerdict.{all_of_verdict}
use Rattle.wsn_redact.specs.StandIns.{single_stand_in, IsRedacted, stood}
use Rattle.wsn_redact.specs.Redaction.{zeros_for, IsRedactedRest, unjudged, IsRedaction, redacted_frames}
use Rattle.wsn_redact.proofs.StoodTexts.{stood_is}
use Rattle.wsn_redact.proofs.RedactedPayloads.{are_redacted}

module _ (role : Role) (limits : Limits) where
  pub no_head : (fs : List Frame) (rest : List ℕ) → length rest < 2 → (info : HeadInfo) → BeginsWithHead role limits fs rest info → ⊥
  no_head fs rest short info b = let two = begins_two role limits fs rest info b in omega (arith, two, short)

  unfoldable pub short_rest : (bytes : List ℕ) (fs : List Frame) (v : Verdict) → IsVerdict role limits bytes fs v → (rest : List ℕ) → length rest < 2 → (written : List ℕ) × IsRedactedRest role limits fs rest written
  short_rest bytes fs (Accepted s) is rest short = elim is.0.ends [
    | inl ends ↦ (rest, inr (inl (ends.0, no_head fs rest short, refl)))
    | inr ends ↦ (zeros_for rest, inl (ends.0, refl))
  ]
  short_rest bytes fs (Cut s) is rest short = (rest, inr (inl (is.0.no_close, no_head fs rest short, refl)))
  short_rest bytes fs (Refused r) is rest short = (rest, inr (inl (is.no_close, no_head fs rest short, refl)))

  unfoldable pub redaction_found : (bytes : List ℕ) (range : in_range limits ≡ true) (in_bytes : all_bytes bytes ≡ true)
      → let v = found role limits (range_by_test limits range) bytes (bytes_by_test bytes in_bytes) in
      nat_lt (length (drop (length (stream v.frames)) (judged_bytes v.verdict bytes))) 2 ≡ true → List ℕ
  unfolding short_rest
  redaction_found bytes range in_bytes short =
      let v = found role limits (range_by_test limits range) bytes (bytes_by_test bytes in_bytes) in
      let rest = drop (length (stream v.frames)) (judged_bytes v.verdict bytes) in
      stream (redacted_frames [] v.frames) ++ ((short_rest bytes v.frames v.verdict v.is rest (ltb-true (length rest) 2 short)).0 ++ zeros_for (unjudged v.verdict bytes))

  pub computed : (bytes redacted : List ℕ) (range : in_range limits ≡ true) (in_bytes : all_bytes bytes ≡ true)
      → let v = found role limits (range_by_test limits range) bytes (bytes_by_test bytes in_bytes) in
      (short : nat_lt (length (drop (length (stream v.frames)) (judged_bytes v.verdict bytes))) 2 ≡ true) → redaction_found bytes range in_bytes short ≡ redacted → IsRedaction role limits bytes redacted
  unfolding redaction_found
  computed bytes redacted range in_bytes short same =
      let v = found role limits (range_by_test limits range) bytes (bytes_by_test bytes in_bytes) in
      let rest = drop (length (stream v.frames)) (judged_bytes v.verdict bytes) in
      let written = short_rest bytes v.frames v.verdict v.is rest (ltb-true (length rest) 2 short) in
      record {
        frames = v.frames;
        verdict = v.verdict;
        is_verdict = v.is;
        is = record {
          frames = redacted_frames [] v.frames;
          are_frames = are_redacted role limits [] v.frames (all_of_verdict role limits bytes v.frames v.verdict v.is).lawful;
          rest = written.0;
          is_rest = written.1;
          whole = sym same;
        };
      }

-- A text that goes wrong at its last byte.
pub wrong_text : (front : List ℕ) (bad : ℕ) → BeginsText front → (BeginsText (front ++ bad ∷ []) → ⊥) → IsRedacted (front ++ bad ∷ []) (stood [] front ++ single_stand_in bad ∷ [])
wrong_text front bad begins wrong = inr (record {
  front = front;
  bad = bad;
  front_redacted = stood [] front;
  text_is = refl;
  goes_wrong = wrong;
  is_front = stood_is front begins;
  redacted_is = refl;
})

-- ---- a rest that begins with a whole head

abbrev is_right : {A B : Type 0} → A ⊎ B → Bool
is_right (inl a) = false
is_right (inr b) = true

right_of : {A B : Type 0} (choice : A ⊎ B) → is_right choice ≡ true → B
right_of (inl a) test = absurd cc
right_of (inr b) test = b

-- No prefix of a head is evidence.
unfoldable pub head_tested : (role : Role) (limits : Limits) (group : List Frame) (head : List ℕ) → Bool
unfolding less_or_not same_or_not nothing begun four_long three_long after_first after_byte following fill begins_by begins_decided text_by text_decided begins_or_bad begins_or_first_bad accepted_code_or_not both both_in_turn either denied less at_most bool_is role_is only_shortest no_group limit_is is_long is_short_one not_minimal top_bit op_is_text of_text ends_bad ends_inside by_first by_second by_length by_payload into_payload first_evidence second_evidence length_evidence payload_evidence evidence_decided least_or_none reason_at numbered least_reason front_decided least_front
head_tested role limits group head = is_right (least_front role limits group head)

pub quiet_head : (role : Role) (limits : Limits) (group : List Frame) (head : List ℕ) → head_tested role limits group head ≡ true → HasNoEvidence role limits group head
unfolding head_tested
quiet_head role limits group head test = record {
  none = λ seen later reason is evidence.
      let none = right_of (least_front role limits group head) test in
      let size : length head ≡ length seen + length later = ap (λ (bs : List ℕ). length bs) is ∙ length-append seen later in
      let front : take (length seen) head ≡ seen = ap (λ (bs : List ℕ). take (length seen) bs) is ∙ take_at seen later (length seen) refl in
      none (length seen) reason (omega (arith, size)) (subst (λ (bs : List ℕ). Evidence role limits group reason bs) (sym front) evidence);
}

module _ (role : Role) (limits : Limits) where
  pub computed_with : (bytes redacted rest : List ℕ) (range : in_range limits ≡ true) (in_bytes : all_bytes bytes ≡ true)
      → let v = found role limits (range_by_test limits range) bytes (bytes_by_test bytes in_bytes) in
      IsRedactedRest role limits v.frames (drop (length (stream v.frames)) (judged_bytes v.verdict bytes)) rest → stream (redacted_frames [] v.frames) ++ (rest ++ zeros_for (unjudged v.verdict bytes)) ≡ redacted → IsRedaction role limits bytes redacted
  computed_with bytes redacted rest range in_bytes is_rest same =
      let v = found role limits (range_by_test limits range) bytes (bytes_by_test bytes in_bytes) in
      record {
        frames = v.frames;
        verdict = v.verdict;
        is_verdict = v.is;
        is = record {
          frames = redacted_frames [] v.frames;
          are_frames = are_redacted role limits [] v.frames (all_of_verdict role limits bytes v.frames v.verdict v.is).lawful;
          rest = rest;
          is_rest = is_rest;
          whole = sym same;
        };
      }

  -- Two bytes that are evidence don't begin with a valid head.
  pub no_head_of_two : (fs : List Frame) (rest : List ℕ) (reason : Reason) → length rest ≤ 2 → Evidence role limits (unfinished fs) reason rest → (info : HeadInfo) → BeginsWithHead role limits fs rest info → ⊥
  no_head_of_two fs rest reason short evidence info b =
      let two = begins_two role limits fs b.head info (record { head = b.head; following = []; whole = sym (append-nil b.head); offset = b.offset; encoded = b.encoded; key = b.key; form = b.form; size = b.size; has_no_evidence = b.has_no_evidence }) in
      let size = ap (λ (bs : List ℕ). length bs) b.whole in
      let none : b.following ≡ [] = no_items b.following (omega (arith, two, size, short, length-append b.head b.following)) in
      let head : rest ≡ b.head = b.whole ∙ ap (λ (bs : List ℕ). b.head ++ bs) none ∙ append-nil b.head in
      b.has_no_evidence.none b.head [] reason (sym (append-nil b.head)) (subst (Evidence role limits (unfinished fs) reason) head evidence)
