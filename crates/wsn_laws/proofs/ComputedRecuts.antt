-- The plan and the recut of an input that is written out, where the laws that find them compute.
use Rattle.std.proofs.Common.{◌≡◌, ℕ, Bool, true, false, List, []}
use Rattle.std.proofs.lemmas.Bool.{false≢true}
use Rattle.wsn_wire.specs.declared.endpoint.Role.{Role}
use Rattle.wsn_wire.specs.Frame.{Frame}
use Rattle.wsn_rules.specs.declared.step.Step.{Step}
use Rattle.wsn_rules.specs.declared.verdict.Verdict.{Verdict}
use Rattle.wsn_rules.specs.declared.verdict.Verdict.TheVariants.{Accepted, Cut, Refused}
use Rattle.wsn_rules.specs.Limits.{Limits}
use Rattle.wsn_rules.specs.Group.{unfinished}
use Rattle.wsn_rules.specs.Accepted.{IsAccepted}
use Rattle.wsn_rules.specs.Meaning.{meaning}
use Rattle.wsn_rules.specs.Verdict.{IsVerdict}
use Rattle.wsn_rules.specs.Recut.{recut_bytes, plan_of}
use Rattle.wsn_laws.specs.PlanExamples.{HasPlan, RecutsTo}
use Rattle.wsn_rules.proofs.Computed.{all_bytes, bytes_by_test, in_range, range_by_test, found}
use Rattle.wsn_laws.proofs.ComputedFaults.{decoded, reports_fits, does_fit}

abbrev pub is_accepted : Verdict → Bool
is_accepted (Accepted summary) = true
is_accepted verdict = false

accepted_by_test : (role : Role) (limits : Limits) (bytes : List ℕ) (fs : List Frame) (verdict : Verdict) → IsVerdict role limits bytes fs verdict → is_accepted verdict ≡ true → IsAccepted role limits bytes fs
accepted_by_test role limits bytes fs (Accepted summary) is test = is.0
accepted_by_test role limits bytes fs (Cut summary) is test = absurd (false≢true test)
accepted_by_test role limits bytes fs (Refused refusal) is test = absurd (false≢true test)

module _ (role : Role) (limits : Limits) (bytes : List ℕ) (plan : List Step) where
  -- The frames of the input.
  abbrev pub frames_of : in_range limits ≡ true → all_bytes bytes ≡ true → List Frame
  frames_of range in_bytes = (found role limits (range_by_test limits range) bytes (bytes_by_test bytes in_bytes)).frames

  abbrev pub verdict_of : in_range limits ≡ true → all_bytes bytes ≡ true → Verdict
  verdict_of range in_bytes = (found role limits (range_by_test limits range) bytes (bytes_by_test bytes in_bytes)).verdict

  accepted_frames : (range : in_range limits ≡ true) (in_bytes : all_bytes bytes ≡ true) → is_accepted (verdict_of range in_bytes) ≡ true → IsAccepted role limits bytes (frames_of range in_bytes)
  accepted_frames range in_bytes test =
      accepted_by_test role limits bytes (frames_of range in_bytes) (verdict_of range in_bytes) (found role limits (range_by_test limits range) bytes (bytes_by_test bytes in_bytes)).is test

  pub has_plan : (range : in_range limits ≡ true) (in_bytes : all_bytes bytes ≡ true) → is_accepted (verdict_of range in_bytes) ≡ true → unfinished (frames_of range in_bytes) ≡ [] → plan_of (frames_of range in_bytes) ≡ plan
      → HasPlan role limits bytes plan
  has_plan range in_bytes test finished is = record { frames = frames_of range in_bytes; accepted = accepted_frames range in_bytes test; finished = finished; is = is }

  pub recuts_to : (others : List ℕ) (range : in_range limits ≡ true) (in_bytes : all_bytes bytes ≡ true) → is_accepted (verdict_of range in_bytes) ≡ true
      → reports_fits role limits (meaning (frames_of range in_bytes)) (decoded role limits (meaning (frames_of range in_bytes)) plan range) ≡ true → recut_bytes plan (meaning (frames_of range in_bytes)) ≡ others
      → RecutsTo role limits bytes plan others
  recuts_to others range in_bytes test fits is = record {
    frames = frames_of range in_bytes;
    accepted = accepted_frames range in_bytes test;
    fits = does_fit role limits (meaning (frames_of range in_bytes)) plan range fits;
    is = is;
  }
