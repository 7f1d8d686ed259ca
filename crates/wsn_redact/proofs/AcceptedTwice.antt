-- The redaction of an accepted stream is its own redaction.
use Rattle.std.proofs.Common.{◌≡◌, ℕ, ◌-◌, true, List, [], ◌∷◌, ◌++◌, length, drop, inl, inr, refl, sym, ap, ◌∙◌, subst, append-nil, append_assoc, length-append, arith}
use Rattle.std.proofs.lemmas.List.{drop_at}
use Rattle.wsn_wire.specs.declared.endpoint.Role.{Role}
use Rattle.wsn_wire.specs.declared.opcode.Op.{Op}
use Rattle.wsn_wire.specs.declared.opcode.Op.TheVariants.{Continue, Text}
use Rattle.wsn_wire.specs.Frame.{Frame, stream}
use Rattle.wsn_rules.specs.declared.verdict.Verdict.{Verdict}
use Rattle.wsn_rules.specs.declared.verdict.Verdict.TheVariants.{Accepted}
use Rattle.wsn_rules.specs.Limits.{Limits}
use Rattle.wsn_rules.specs.AfterClose.{EndsWithClose}
use Rattle.wsn_rules.specs.Accepted.{IsAccepted}
use Rattle.wsn_rules.specs.Group.{unfinished, payload_of}
use Rattle.wsn_rules.specs.Lawful.{IsLawful}
use Rattle.wsn_rules.specs.Summary.{counted}
use Rattle.wsn_rules.proofs.HeadsGoOn.{begins_two}
use Rattle.wsn_rules.proofs.OneVerdict.{one_verdict}
use Rattle.wsn_redact.specs.StandIns.{stood}
use Rattle.wsn_redact.specs.Redaction.{zeros_for, is_of_text, with_payload, redacted_payload, redacted_frames, AreRedacted, IsRedactedRest, IsRedactionAt, IsRedaction}
use Rattle.wsn_redact.proofs.RedactedPayloads.{are_redacted, one_frames, lawful_text}
use Rattle.wsn_redact.proofs.RedactedSteps.{may_lawful}
use Rattle.wsn_redact.proofs.KeptParts.{MayBegin}
use Rattle.wsn_redact.proofs.RedactedVerdicts.{close_among, SameGroup, none_same, redacted_frame, same_after, stays_accepted}
use Rattle.wsn_redact.proofs.RedactedTwice.{payload_twice, zeros_twice}

-- The text before a frame is redacted.
pub text_before : (group redacted : List Frame) (op : Op) → SameGroup group redacted → MayBegin group op → is_of_text group op ≡ true → payload_of redacted ≡ stood [] (payload_of group)
text_before [] redacted op same may is = by redacted same.count
  where
    by : (ys : List Frame) → length ys ≡ 0 → payload_of ys ≡ []
    by [] count = refl
    by (y ∷ ys) count = absurd (omega (arith, count))
text_before (x ∷ xs) redacted Continue same may is = same.text is
text_before (x ∷ xs) redacted Text same may is = let none : x ∷ xs ≡ [] = may.begins (inl refl) in absurd cc
text_before (x ∷ xs) redacted _ same may is = absurd cc

module _ (role : Role) (limits : Limits) where
  pub frames_twice : (before after fs : List Frame) → IsLawful role limits (before ++ fs) → SameGroup (unfinished before) (unfinished after) → redacted_frames after (redacted_frames before fs) ≡ redacted_frames before fs
  frames_twice before after [] lawful same = refl
  frames_twice before after (f ∷ fs) lawful same =
      let law = lawful.each before fs f refl in
      let h = redacted_frame (unfinished before) f in
      let payload = payload_twice (unfinished before) (unfinished after) f.op f.payload same.first (text_before (unfinished before) (unfinished after) f.op same (may_lawful role limits before f law)) (lawful_text role limits before f law) in
      let first : with_payload h (redacted_payload (unfinished after) f.op h.payload) ≡ h = ap (λ (bs : List ℕ). with_payload f bs) payload in
      let rest = frames_twice (before ++ f ∷ []) (after ++ h ∷ []) fs (subst (IsLawful role limits) (sym (append_assoc before (f ∷ []) fs)) lawful) (same_after role limits before after f law same) in
      λ i. first i ∷ rest i

  closed_rest : (fs : List Frame) (rest redacted : List ℕ) → EndsWithClose fs → IsRedactedRest role limits fs rest redacted → redacted ≡ zeros_for rest
  closed_rest fs rest redacted ends (inl closed) = closed.1
  closed_rest fs rest redacted ends (inr (inl none)) = absurd (none.0 ends.0 [] ends.1 ends.3 ends.2)
  closed_rest fs rest redacted ends (inr (inr some)) = absurd (some.0 ends.0 [] ends.1 ends.3 ends.2)

  pub accepted_twice : (bytes redacted : List ℕ) (fs : List Frame) → IsAccepted role limits bytes fs → IsRedaction role limits bytes redacted → IsRedaction role limits redacted redacted
  accepted_twice bytes redacted fs is r =
      let gs = redacted_frames [] fs in
      let accepted = stays_accepted role limits bytes redacted fs is r in
      let v = Accepted (counted fs (length (stream fs)) (length bytes - length (stream fs))) in
      let same = one_verdict role limits bytes r.frames fs r.verdict v r.is_verdict (is, refl) in
      let at : IsRedactionAt role limits bytes fs v redacted =
      subst (λ (w : Verdict). IsRedactionAt role limits bytes fs w redacted) same.1 (subst (λ (hs : List Frame). IsRedactionAt role limits bytes hs r.verdict redacted) same.0 r.is) in
      let frames : at.frames ≡ gs = one_frames [] fs at.frames gs at.are_frames (are_redacted role limits [] fs is.lawful) in
      let whole : redacted ≡ stream gs ++ at.rest = at.whole ∙ (λ i. stream (frames i) ++ append-nil at.rest i) in
      let rest_is : drop (length (stream gs)) redacted ≡ at.rest = ap (λ (bs : List ℕ). drop (length (stream gs)) bs) whole ∙ drop_at (stream gs) at.rest (length (stream gs)) refl in
      let twice : redacted_frames [] gs ≡ gs = frames_twice [] [] fs is.lawful none_same in
      record {
        frames = gs;
        verdict = Accepted (counted gs (length (stream gs)) (length redacted - length (stream gs)));
        is_verdict = (accepted, refl);
        is = record {
          frames = gs;
          are_frames = subst (AreRedacted [] gs) twice (are_redacted role limits [] gs accepted.lawful);
          rest = at.rest;
          is_rest = subst (λ (bs : List ℕ). IsRedactedRest role limits gs bs at.rest) (sym rest_is) (rest_twice fs is at.rest at.is_rest redacted whole accepted);
          whole = whole ∙ ap (λ (bs : List ℕ). stream gs ++ bs) (sym (append-nil at.rest));
        };
      }
    where
      rest_twice : (hs : List Frame) → IsAccepted role limits bytes hs → (rest : List ℕ) → IsRedactedRest role limits hs (drop (length (stream hs)) bytes) rest → (text : List ℕ) → text ≡ stream (redacted_frames [] hs) ++ rest → IsAccepted role limits text (redacted_frames [] hs)
          → IsRedactedRest role limits (redacted_frames [] hs) rest rest
      rest_twice hs was rest is_rest text whole now = elim now.ends [
        | inl ends ↦
            let size = ap (λ (bs : List ℕ). length bs) (sym ends.2 ∙ whole) in
            inr (inl (ends.0, λ info b. (let two = begins_two role limits (redacted_frames [] hs) rest info b in omega (arith, two, size, length-append (stream (redacted_frames [] hs)) rest)), refl))
        | inr ends ↦ elim was.ends [
          | inl open_ends ↦
              let c = close_among [] hs ends.0.0 [] ends.0.1 ends.0.3 ends.0.2 in
              absurd (open_ends.0 c.front c.back c.frame c.is c.closes)
          | inr closed ↦
              let zeros = closed_rest hs (drop (length (stream hs)) bytes) rest closed.0 is_rest in
              inl (ends.0, zeros ∙ sym (ap (λ (bs : List ℕ). zeros_for bs) zeros ∙ zeros_twice (drop (length (stream hs)) bytes)))
        ]
      ]
