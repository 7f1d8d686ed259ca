-- What a recut answers, what that says of the bytes that came, and what was written.
use Rattle.std.specs.Prelude.{◌≡◌, ℕ, ◌+◌, ◌<◌, ⊤, Result, Ok, Err, List, length, take}
use Rattle.wsn_wire.specs.declared.endpoint.Role.{Role}
use Rattle.wsn_wire.specs.Frame.{Frame}
use Rattle.wsn_io.specs.Transfer.{Incoming, Outgoing, IsReceived, IsWritten, IsPartlyWritten}
use Rattle.wsn_rules.specs.declared.step.Step.{Step}
use Rattle.wsn_rules.specs.declared.verdict.Verdict.{Verdict}
use Rattle.wsn_rules.specs.Limits.{Limits, InRange}
use Rattle.wsn_rules.specs.LawfulEvents.{AreLawful}
use Rattle.wsn_rules.specs.Meaning.{MeantEvent, meaning}
use Rattle.wsn_rules.specs.Verdict.{IsVerdict, IsUnrefused}
use Rattle.wsn_rules.specs.Fitting.{Fits}
use Rattle.wsn_rules.specs.Fault.{IsFault}
use Rattle.wsn_rules.specs.Recut.{recut_bytes}
use Rattle.wsn_io.specs.declared.stop.Stop.{Stop}
use Rattle.wsn_io.specs.declared.stop.Stop.TheVariants as stop
use Rattle.wsn_rules.specs.SameMeaning.{IsAnAccepted}
use Rattle.wsn_events.specs.Normalised.{IsWithinLimit}
use Rattle.wsn_events.specs.Sources.{IsLast}
use Rattle.wsn_plan.specs.declared.recutting.RecutAnswer.{RecutAnswer, TheVariants.{Done, NotAccepted, Fault}}
use Rattle.wsn_plan.specs.Gathering.{IsStoppedAfter}

-- The answer to a plan for a stream with this verdict and these events: the stream isn't accepted; or it is, and the
-- plan fits, or has this fault.
abbrev pub IsAnswerTo : Role → Limits → List Step → Verdict → List MeantEvent → RecutAnswer → Type 0
IsAnswerTo role limits plan verdict events Done = IsAnAccepted verdict × Fits role limits plan events
IsAnswerTo role limits plan verdict events (NotAccepted answered) = (answered ≡ verdict) × ¬ (IsAnAccepted verdict)
IsAnswerTo role limits plan verdict events (Fault step why) =
    IsAnAccepted verdict × IsFault role limits plan events step why

-- With Done the recut was written, with any other answer nothing.
abbrev pub GoesOut : List Step → List MeantEvent → Outgoing → Outgoing → RecutAnswer → Type 0
GoesOut plan events before after Done = IsWritten before after (recut_bytes plan events)
GoesOut plan events before after answer = after ≡ before

-- The plan by which a stream with these events is refragmented.
abbrev pub Planner : Type 0
Planner = List MeantEvent → List Step

-- The result is right for the bytes that came. After a failed write, a prefix of the recut was written; at any other
-- stop nothing was.
abbrev pub IsRecutOf : Role → Limits → Planner → Incoming → List ℕ → Outgoing → Outgoing → Result RecutAnswer Stop →
    Type 0
IsRecutOf role limits planned new came before after (Ok answer) =
    (verdict : Verdict) × (events : List MeantEvent) × IsLast role limits new came events (Ok verdict)
    × IsAnswerTo role limits (planned events) verdict events answer
    × GoesOut (planned events) events before after answer
IsRecutOf role limits planned new came before after (Err stop.Write) =
    (verdict : Verdict) × (events : List MeantEvent) × IsLast role limits new came events (Ok verdict)
    × IsAnswerTo role limits (planned events) verdict events Done
    × IsPartlyWritten before after (recut_bytes (planned events) events)
IsRecutOf role limits planned new came before after (Err stopped) =
    IsStoppedAfter role limits new came stopped × (after ≡ before)

-- These bytes came from the input, at most one past its limit; the result is right for them, and this was written.
pub record IsRecut (role : Role) (limits : Limits) (planned : Planner) (old new : Incoming) (before after : Outgoing)
    (result : Result RecutAnswer Stop) : Type 0 where
  pub came : List ℕ
  pub received : IsReceived (limits.input + 1) old new came
  pub of_bytes : IsRecutOf role limits planned new came before after result

-- ---- an input whose bytes are known

-- The result for all bytes of an input. After a failed read, write or allocation this says nothing.
abbrev pub IsRecutWhole : Role → Limits → Planner → List ℕ → Outgoing → Outgoing → Result RecutAnswer Stop → Type 0
IsRecutWhole role limits planned all before after (Ok answer) =
    (verdict : Verdict) × (fs : List Frame) × IsVerdict role limits all fs verdict × IsWithinLimit limits all verdict
    × IsAnswerTo role limits (planned (meaning fs)) verdict (meaning fs) answer
    × GoesOut (planned (meaning fs)) (meaning fs) before after answer
IsRecutWhole role limits planned all before after (Err stop.InputLimit) =
    (limits.input < length all) × IsUnrefused role limits (take limits.input all) × (after ≡ before)
IsRecutWhole role limits planned all before after (Err stopped) = ⊤

-- ---- while recutting

-- The events are lawful under some limits, and the plan fits them there.
pub record FitsWithin (plan : List Step) (events : List MeantEvent) : Type 0 where
  pub role : Role
  pub limits : Limits
  pub range : InRange limits
  pub lawful : AreLawful limits.message events
  pub fits : Fits role limits plan events

-- The result for these events and a plan: the recut was written, or a prefix of it; or the plan has this fault.
abbrev pub IsRefragmented : Role → Limits → List Step → List MeantEvent → Outgoing → Outgoing →
    Result RecutAnswer Stop →
    Type 0
IsRefragmented role limits plan events before after (Ok Done) =
    Fits role limits plan events × IsWritten before after (recut_bytes plan events)
IsRefragmented role limits plan events before after (Ok (NotAccepted verdict)) = ⊥
IsRefragmented role limits plan events before after (Ok (Fault step why)) =
    IsFault role limits plan events step why × (after ≡ before)
IsRefragmented role limits plan events before after (Err stopped) =
    (stopped ≡ stop.Write) × Fits role limits plan events × IsPartlyWritten before after (recut_bytes plan events)
