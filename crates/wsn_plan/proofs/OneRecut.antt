-- For an input whose bytes are known a recut has one answer and writes one list of bytes, and planning has one answer.
use Rattle.std.proofs.Common.{◌≡◌, ℕ, false, Result, Ok, Err, List, [], refl, sym, ap, ◌∙◌, subst, arith}
use Rattle.std.proofs.KnownBytes.{Appends-nil}
use Rattle.wsn_wire.specs.declared.endpoint.Role.{Role}
use Rattle.wsn_wire.specs.Frame.{Frame}
use Rattle.wsn_io.specs.Transfer.{Outgoing, IsWritten}
use Rattle.wsn_rules.specs.declared.step.Step.{Step}
use Rattle.wsn_rules.specs.declared.why.Why.{Why}
use Rattle.wsn_rules.specs.declared.verdict.Verdict.{Verdict}
use Rattle.wsn_rules.specs.Limits.{Limits}
use Rattle.wsn_rules.specs.Meaning.{MeantEvent, meaning}
use Rattle.wsn_rules.specs.Recut.{recut_bytes}
use Rattle.wsn_rules.proofs.OneVerdict.{one_verdict}
use Rattle.wsn_rules.proofs.PlanTheory.Faults.{not_both, one_fault}
use Rattle.wsn_io.specs.declared.stop.Stop.{Stop}
use Rattle.wsn_io.specs.declared.stop.Stop.TheVariants as stop
use Rattle.wsn_plan.specs.declared.planning.PlanAnswer.{PlanAnswer}
use Rattle.wsn_plan.specs.declared.recutting.RecutAnswer.{RecutAnswer}
use Rattle.wsn_plan.specs.declared.recutting.RecutAnswer.TheVariants.{Done, NotAccepted, Fault}
use Rattle.wsn_io.specs.Stops.{HasNoFailure}
use Rattle.wsn_scan.proofs.WholeInputs.{not_past}
use Rattle.wsn_plan.specs.Planning.{IsPlanFor, IsPlannedWhole}
use Rattle.wsn_plan.specs.Recutting.{IsAnswerTo, GoesOut, IsRecutWhole, Planner}

-- nothing was written
unwritten : (before after : Outgoing) → before.failed ≡ false → after ≡ before → IsWritten before after []
unwritten before after sound same = subst (λ (o : Outgoing). IsWritten before o []) (sym same) (sound, Appends-nil before.written)

module _ (role : Role) (limits : Limits) where
  -- ---- recuts

  pub one_recut_answer : (plan : List Step) (verdict : Verdict) (events : List MeantEvent) (answer other : RecutAnswer) → IsAnswerTo role limits plan verdict events answer
      → IsAnswerTo role limits plan verdict events other → answer ≡ other
  one_recut_answer plan verdict events Done Done one two = refl
  one_recut_answer plan verdict events Done (Fault step why) one two = absurd (not_both role limits events plan step why one.1 two.1)
  one_recut_answer plan verdict events (NotAccepted has_reported) Done one two = absurd (one.1 two.0)
  one_recut_answer plan verdict events (NotAccepted has_reported) (NotAccepted also) one two = ap (λ (v : Verdict). NotAccepted v) (one.0 ∙ sym two.0)
  one_recut_answer plan verdict events (NotAccepted has_reported) (Fault step why) one two = absurd (one.1 two.0)
  one_recut_answer plan verdict events (Fault step why) Done one two = absurd (not_both role limits events plan step why two.1 one.1)
  one_recut_answer plan verdict events (Fault step why) (Fault also other) one two =
      let same = one_fault role limits events plan step also why other one.1 two.1 in
      ap (λ (s : ℕ). Fault s why) same.0 ∙ ap (λ (w : Why). Fault also w) same.1
  one_recut_answer plan verdict events _ (NotAccepted has_reported) one two = absurd (two.1 one.0)

  -- what is written with an answer
  out_with : List Step → List MeantEvent → RecutAnswer → List ℕ
  out_with plan events Done = recut_bytes plan events
  out_with plan events _ = []

  goes_out : (plan : List Step) (events : List MeantEvent) (before after : Outgoing) (answer : RecutAnswer) → before.failed ≡ false → GoesOut plan events before after answer
      → IsWritten before after (out_with plan events answer)
  unfolding out_with
  goes_out plan events before after Done sound out = out
  goes_out plan events before after _ sound out = unwritten before after sound out

  abbrev AreAlike : Outgoing → Outgoing → Outgoing → Outgoing → Type 0
  AreAlike before after other_before other_after = (bytes : List ℕ) × IsWritten before after bytes × IsWritten other_before other_after bytes

  module _ (planned : Planner) (all : List ℕ) (before after other_before other_after : Outgoing) (sound : before.failed ≡ false) (also_sound : other_before.failed ≡ false) where
    both_answer : (answer other : RecutAnswer) → IsRecutWhole role limits planned all before after (Ok answer) → IsRecutWhole role limits planned all other_before other_after (Ok other)
        → (answer ≡ other) × AreAlike before after other_before other_after
    both_answer answer other (v, fs, v_is, within, has_reported, out) (w, gs, w_is, also_within, also_reported, also_out) = (same, (out_with plan events answer, goes_out plan events before after answer sound out, also_written))
      where
        alike : (fs ≡ gs) × (v ≡ w)
        alike = one_verdict role limits all fs gs v w v_is w_is

        events : List MeantEvent
        events = meaning fs

        plan : List Step
        plan = planned events

        reported_here : IsAnswerTo role limits plan v events other
        reported_here = subst (λ (u : Verdict). IsAnswerTo role limits plan u events other) (sym alike.1) (subst (λ (hs : List Frame). IsAnswerTo role limits (planned (meaning hs)) w (meaning hs) other) (sym alike.0) also_reported)

        same : answer ≡ other
        same = one_recut_answer plan v events answer other has_reported reported_here

        out_here : GoesOut plan events other_before other_after other
        out_here = subst (λ (hs : List Frame). GoesOut (planned (meaning hs)) (meaning hs) other_before other_after other) (sym alike.0) also_out

        also_written : IsWritten other_before other_after (out_with plan events answer)
        also_written = subst (λ (a : RecutAnswer). IsWritten other_before other_after (out_with plan events a)) (sym same) (goes_out plan events other_before other_after other also_sound out_here)

    pub one_recut : (result other : Result RecutAnswer Stop) → HasNoFailure result → HasNoFailure other → IsRecutWhole role limits planned all before after result
        → IsRecutWhole role limits planned all other_before other_after other → (result ≡ other) × AreAlike before after other_before other_after
    one_recut (Ok answer) (Ok other) says also one two =
        let both = both_answer answer other one two in
        (ap (λ (a : RecutAnswer). let r : Result RecutAnswer Stop = Ok a in r) both.0, both.1)
    one_recut (Ok answer) (Err stop.InputLimit) says also one two = absurd (not_past role limits all one.1 one.0 one.2 one.3 two.0 two.1)
    one_recut (Err stop.InputLimit) (Ok other) says also one two = absurd (not_past role limits all two.1 two.0 two.2 two.3 one.0 one.1)
    one_recut (Err stop.InputLimit) (Err stop.InputLimit) says also one two = (refl, ([], unwritten before after sound one.2, unwritten other_before other_after also_sound two.2))
    one_recut result (Err stop.Read) says also one two = absurd also
    one_recut result (Err stop.Memory) says also one two = absurd also
    one_recut result (Err stop.Write) says also one two = absurd also
    one_recut _ other says also one two = absurd says

  -- ---- plans

  module _ {A : Type 0} (all : List ℕ) where
    one_plan_answer : (frames : List Frame) (verdict : Verdict) (answer other : PlanAnswer A) → IsPlanFor frames verdict answer → IsPlanFor frames verdict other → answer ≡ other
    one_plan_answer frames verdict answer other one two = grind arith

    pub one_plan_of : (result other : Result (PlanAnswer A) Stop) → HasNoFailure result → HasNoFailure other → IsPlannedWhole role limits all result → IsPlannedWhole role limits all other
        → result ≡ other
    one_plan_of result other says also one two = grind (arith, one_verdict, one_plan_answer, not_past)
