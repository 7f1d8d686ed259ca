-- What a recut writes is accepted, and means what its input does.
use Rattle.std.proofs.Common.{◌≡◌, ℕ, Ok, List, []}
use Rattle.wsn_wire.specs.declared.endpoint.Role.{Role}
use Rattle.wsn_wire.specs.Frame.{Frame, stream}
use Rattle.wsn_io.specs.Transfer.{Outgoing, IsWritten}
use Rattle.wsn_rules.specs.declared.verdict.Verdict.{Verdict}
use Rattle.wsn_rules.specs.declared.verdict.Verdict.TheVariants.{Accepted}
use Rattle.wsn_rules.specs.Accepted.{IsAccepted}
use Rattle.wsn_rules.specs.Fitting.{Fits}
use Rattle.wsn_rules.specs.Group.{unfinished}
use Rattle.wsn_rules.specs.Limits.{Limits, InRange}
use Rattle.wsn_rules.specs.Meaning.{MeantEvent, meaning}
use Rattle.wsn_rules.specs.Plan.{IsPlan}
use Rattle.wsn_rules.specs.Recut.{recut, recut_bytes}
use Rattle.wsn_rules.specs.Verdict.{IsVerdict}
use Rattle.wsn_rules.proofs.LawfulMeaning.{lawful_meaning}
use Rattle.wsn_rules.proofs.PlanTheory.RecutFrames.{recut_is_finished, recut_means, recut_is_accepted}
use Rattle.wsn_plan.specs.declared.recutting.RecutAnswer.TheVariants.{Done}
use Rattle.wsn_rules.specs.SameMeaning.{IsAnAccepted}
use Rattle.wsn_plan.specs.Recutting.{IsRecutWhole, Planner}

module _ (role : Role) (limits : Limits) (planned : Planner) (all : List ℕ) (before after : Outgoing) (range : InRange limits) (are_plans : (events : List MeantEvent) → IsPlan (planned events)) where
  -- it was written, is accepted as the input is, and means the same
  abbrev MeansTheSame : Type 0
  MeansTheSame = (fs gs : List Frame) × IsAccepted role limits all fs × IsWritten before after (stream gs)
      × IsAccepted role limits (stream gs) gs × (unfinished gs ≡ []) × (meaning gs ≡ meaning fs)

  of_accepted : (fs : List Frame) → IsAccepted role limits all fs → Fits role limits (planned (meaning fs)) (meaning fs)
      → IsWritten before after (recut_bytes (planned (meaning fs)) (meaning fs)) → MeansTheSame
  of_accepted fs accepted fits written =
      let events = meaning fs in
      let plan = planned (meaning fs) in
      let lawful = lawful_meaning role limits fs accepted.lawful range in (
        fs,
        recut plan events,
        accepted,
        written,
        recut_is_accepted role limits events plan lawful (are_plans events) fits,
        recut_is_finished role limits events plan lawful (are_plans events) fits,
        recut_means role limits events plan lawful (are_plans events) fits,
      )

  pub same_meaning : IsRecutWhole role limits planned all before after (Ok Done) → MeansTheSame
  same_meaning (verdict, fs, is, within, (ok, fits), written) = by_verdict verdict is ok
    where
      by_verdict : (v : Verdict) → IsVerdict role limits all fs v → IsAnAccepted v → MeansTheSame
      by_verdict (Accepted summary) v_is accepted = of_accepted fs v_is.0 fits written
      by_verdict _ v_is accepted = absurd accepted
