-- What normalising answers and writes for all bytes of an input whose bytes are known, in whatever chunks they come.
use Rattle.std.proofs.Common.{◌≡◌, ℕ, ◌+◌, ◌-◌, ◌≤◌, Option, Some, Result, Ok, Err, List, [], ◌++◌, length, take, refl, sym, ap, ◌∙◌, subst, length-append, arith}
use Rattle.std.proofs.lemmas.List.{take-append-le}
use Rattle.std.specs.Io.KnownBytes.{Consumes}
use Rattle.wsn_wire.specs.declared.endpoint.Role.{Role}
use Rattle.wsn_wire.specs.Frame.{Frame, stream}
use Rattle.wsn_io.specs.Transfer.{Incoming, Outgoing, IsWritten}
use Rattle.wsn_rules.specs.declared.verdict.Summary.{Summary}
use Rattle.wsn_rules.specs.declared.verdict.Verdict.{Verdict}
use Rattle.wsn_rules.specs.declared.verdict.Verdict.TheVariants.{Accepted}
use Rattle.wsn_rules.specs.Limits.{Limits, InRange}
use Rattle.wsn_rules.specs.Accepted.{IsAccepted}
use Rattle.wsn_rules.specs.Group.{unfinished}
use Rattle.wsn_rules.specs.Meaning.{MeantEvent, meaning}
use Rattle.wsn_rules.specs.NormalForm.{normal_form}
use Rattle.wsn_rules.specs.Summary.{counted}
use Rattle.wsn_rules.specs.Verdict.{IsVerdict, IsUnrefused}
use Rattle.wsn_rules.proofs.NormalLaws.{own_frames}
use Rattle.wsn_rules.proofs.OneVerdict.{one_verdict}
use Rattle.wsn_io.specs.declared.stop.Stop.{Stop}
use Rattle.wsn_io.specs.declared.stop.Stop.TheVariants as stop
use Rattle.wsn_io.specs.Stops.{HasNoFailure}
pub use Rattle.wsn_scan.proofs.WholeInputs.{of_all, not_past}
use Rattle.wsn_events.specs.Normalised.{IsNormalised, IsNormalFormWritten, IsNormalisedWhole, IsWithinLimit}

module _ (role : Role) (limits : Limits) where
  pub whole_normal_form : (old new : Incoming) (before after : Outgoing) (result : Result Verdict Stop) (all : List ℕ) → IsNormalised role limits old new before after result → old.remaining ≡ Some all
      → IsNormalisedWhole role limits all before after result
  whole_normal_form old new before after result all normalised known =
      by_rest new.remaining refl (subst (λ (a : Option (List ℕ)). Consumes a new.remaining normalised.came) known normalised.received.consumed.consumed)
    where
      came : List ℕ
      came = normalised.came

      by_result : (rest : List ℕ) → new.remaining ≡ Some rest → all ≡ came ++ rest → (r : Result Verdict Stop)
          → IsNormalFormWritten role limits new came before after r → IsNormalisedWhole role limits all before after r
      by_result rest left is (Ok verdict) (events, last, written) =
          let meant = last.1 in
          let here = of_all role limits new came rest meant.0 verdict last.0 left meant.1 in (
            meant.0,
            subst (λ (bs : List ℕ). IsVerdict role limits bs meant.0 verdict) (sym is) here.0,
            subst (λ (bs : List ℕ). IsWithinLimit limits bs verdict) (sym is) here.1,
            subst (λ (es : List MeantEvent). IsWritten before after (normal_form role es)) meant.2 written,
          )
      by_result rest left is (Err stop.InputLimit) (events, last, written) =
          let more : length came ≡ limits.input + 1 = last.0.0 in
          let front : take limits.input all ≡ take limits.input came = ap (λ (bs : List ℕ). take limits.input bs) is ∙ take-append-le limits.input came rest (omega (arith, more)) in
          let meant = last.1.1 in (
            omega (arith, ap (λ (bs : List ℕ). length bs) is ∙ length-append came rest, more),
            subst (λ (bs : List ℕ). IsUnrefused role limits bs) (sym front) last.0.1,
            (
              last.1.0,
              meant.0,
              subst (λ (bs : List ℕ). IsVerdict role limits bs meant.0 last.1.0) (sym front) meant.1,
              subst (λ (es : List MeantEvent). IsWritten before after (normal_form role es)) meant.2 written,
            ),
          )
      by_result rest left is _ written = tt

      by_rest : (rest : Option (List ℕ)) → new.remaining ≡ rest → Consumes (Some all) rest came → IsNormalisedWhole role limits all before after result
      by_rest rest left consumed = grind (arith, by_result)

  -- ---- one answer and one text

  abbrev AreAlike : Outgoing → Outgoing → Outgoing → Outgoing → Type 0
  AreAlike before after other_before other_after = (bytes : List ℕ) × IsWritten before after bytes × IsWritten other_before other_after bytes

  pub one_normal_form : (all : List ℕ) (before after other_before other_after : Outgoing) (result other : Result Verdict Stop) → HasNoFailure result → HasNoFailure other
      → IsNormalisedWhole role limits all before after result → IsNormalisedWhole role limits all other_before other_after other → (result ≡ other) × AreAlike before after other_before other_after
  one_normal_form all before after other_before other_after (Ok v) (Ok w) says also one two =
      let same = one_verdict role limits all one.0 two.0 v w one.1 two.1 in (
        ap (λ (u : Verdict). let answer : Result Verdict Stop = Ok u in answer) same.1,
        (normal_form role (meaning one.0), one.3, subst (λ (fs : List Frame). IsWritten other_before other_after (normal_form role (meaning fs))) (sym same.0) two.3),
      )
  one_normal_form all before after other_before other_after (Ok v) (Err stop.InputLimit) says also one two = absurd (not_past role limits all one.0 v one.1 one.2 two.0 two.1)
  one_normal_form all before after other_before other_after (Err stop.InputLimit) (Ok w) says also one two = absurd (not_past role limits all two.0 w two.1 two.2 one.0 one.1)
  one_normal_form all before after other_before other_after (Err stop.InputLimit) (Err stop.InputLimit) says also one two =
      let same = one_verdict role limits (take limits.input all) one.2.1 two.2.1 one.2.0 two.2.0 one.2.2 two.2.2 in (
        refl,
        (normal_form role (meaning one.2.1), one.2.3, subst (λ (fs : List Frame). IsWritten other_before other_after (normal_form role (meaning fs))) (sym same.0) two.2.3),
      )
  one_normal_form all before after other_before other_after result (Err stop.Read) says also one two = absurd also
  one_normal_form all before after other_before other_after result (Err stop.Memory) says also one two = absurd also
  one_normal_form all before after other_before other_after result (Err stop.Write) says also one two = absurd also
  one_normal_form all before after other_before other_after _ other says also one two = absurd says

  -- ---- normalising twice is the same as once

  pub twice : InRange limits → (all : List ℕ) (before after : Outgoing) (summary : Summary) → IsNormalisedWhole role limits all before after (Ok (Accepted summary))
      → (out : List ℕ) × IsWritten before after out × ((again_before again_after : Outgoing) (result : Result Verdict Stop) → length out ≤ limits.input → HasNoFailure result
      → IsNormalisedWhole role limits out again_before again_after result → ((again : Summary) × (result ≡ Ok (Accepted again))) × IsWritten again_before again_after out)
  twice range all before after summary (fs, is, within, written) = (normal_form role (meaning fs), written, again)
    where
      out : List ℕ
      out = normal_form role (meaning fs)

      own : (gs : List Frame) × IsAccepted role limits out gs × (out ≡ stream gs) × (unfinished gs ≡ []) × (meaning gs ≡ meaning fs)
      own = own_frames role limits all fs range is.0

      own_summary : Summary
      own_summary = counted own.0 (length (stream own.0)) (length out - length (stream own.0))

      own_verdict : IsVerdict role limits out own.0 (Accepted own_summary)
      own_verdict = (own.1, refl)

      again : (again_before again_after : Outgoing) (result : Result Verdict Stop) → length out ≤ limits.input → HasNoFailure result
          → IsNormalisedWhole role limits out again_before again_after result → ((other : Summary) × (result ≡ Ok (Accepted other))) × IsWritten again_before again_after out
      again again_before again_after (Ok v) fits says (gs, verdict, inside, went) =
          let same = one_verdict role limits out own.0 gs (Accepted own_summary) v own_verdict verdict in
          let meant : meaning gs ≡ meaning fs = ap meaning (sym same.0) ∙ own.4 in (
            (own_summary, ap (λ (u : Verdict). let answer : Result Verdict Stop = Ok u in answer) (sym same.1)),
            subst (λ (es : List MeantEvent). IsWritten again_before again_after (normal_form role es)) meant went,
          )
      again again_before again_after (Err stop.InputLimit) fits says past = absurd (omega (arith, fits, past.0))
      again again_before again_after _ fits says past = absurd says
