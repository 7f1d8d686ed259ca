-- What planning a stream answers, and what that says of the bytes that came. RFC 6455 sections 5.2 to 5.4.
use Rattle.std.specs.Prelude.{◌≡◌, ◌≢◌, ℕ, ◌+◌, ◌<◌, ⊤, false, Option, None, Result, Ok, Err, List, [], ◌++◌, length, take, if◌then◌else◌}
use Rattle.wsn_wire.specs.declared.endpoint.Role.{Role}
use Rattle.wsn_wire.specs.Frame.{Frame, is_control}
use Rattle.wsn_io.specs.Transfer.{Incoming, Outgoing, IsReceived, IsWritten}
use Rattle.wsn_rules.specs.declared.head_info.HeadInfo.{HeadInfo}
use Rattle.wsn_rules.specs.declared.step.Step.{Step, TheVariants.{Piece, Last, Control}}
use Rattle.wsn_rules.specs.declared.verdict.Refusal.{Refusal}
use Rattle.wsn_rules.specs.declared.verdict.Verdict.{Verdict, TheVariants.{Accepted}}
use Rattle.wsn_rules.specs.Group.{unfinished, IsOpen}
use Rattle.wsn_rules.specs.Limits.{Limits}
use Rattle.wsn_rules.specs.Recut.{plan_of}
use Rattle.wsn_rules.specs.Verdict.{IsVerdict, IsUnrefused}
use Rattle.wsn_io.specs.declared.stop.Stop.{Stop}
use Rattle.wsn_io.specs.declared.stop.Stop.TheVariants as stop
use Rattle.wsn_scan.specs.declared.scan.Scan.{Scan}
use Rattle.wsn_scan.specs.Feeding.{HasScannedBytes, HasFed}
use Rattle.wsn_scan.specs.Judging.{IsReached, IsStopped, IsWithinLimit}
use Rattle.wsn_scan.specs.Positions.{Position}
use Rattle.wsn_scan.specs.Scans.{HasScanned}
use Rattle.wsn_rules.specs.SameMeaning.{IsAnAccepted}
use Rattle.wsn_plan.specs.declared.planning.PlanAnswer.{PlanAnswer, TheVariants.{Plan, NotAccepted, Unfinished}}
use Rattle.wsn_plan.specs.Gathering.{HasWholeFrame}

-- ---- the answer

-- The answer for a stream with these frames and this verdict: the plan of the frames, if it is accepted and leaves no
-- message unfinished.
abbrev pub IsPlanFor : {A : Type 0} → List Frame → Verdict → PlanAnswer A → Type 0
IsPlanFor frames verdict (Plan plan) = IsAnAccepted verdict × (unfinished frames ≡ []) × (plan ≡ plan_of frames)
IsPlanFor frames verdict (NotAccepted answered) = (answered ≡ verdict) × ¬ (IsAnAccepted verdict)
IsPlanFor frames verdict Unfinished = IsAnAccepted verdict × IsOpen frames

-- The result is right for the bytes that came. An allocation fails only after a whole frame within the input limit.
abbrev pub IsPlanOf : {A : Type 0} → Role → Limits → Incoming → List ℕ → Result (PlanAnswer A) Stop → Type 0
IsPlanOf role limits new came (Ok answer) =
    (verdict : Verdict) × (frames : List Frame) × IsReached role limits new came verdict
    × IsVerdict role limits came frames verdict × IsPlanFor frames verdict answer
IsPlanOf role limits new came (Err stop.Memory) =
    HasWholeFrame role limits (take limits.input came) × (new.failed ≡ false)
IsPlanOf role limits new came (Err stopped) = IsStopped role limits new came stopped

-- These bytes came from the input, at most one past its limit, and the result is right for them.
pub record IsPlanned {A : Type 0} (role : Role) (limits : Limits) (old new : Incoming)
    (result : Result (PlanAnswer A) Stop) : Type 0 where
  pub came : List ℕ
  pub received : IsReceived (limits.input + 1) old new came
  pub of_bytes : IsPlanOf role limits new came result

-- ---- an input whose bytes are known

-- The result for all bytes of an input. After a failed read or allocation this says nothing.
abbrev pub IsPlannedWhole : {A : Type 0} → Role → Limits → List ℕ → Result (PlanAnswer A) Stop → Type 0
IsPlannedWhole role limits all (Ok answer) =
    (verdict : Verdict) × (frames : List Frame) × IsVerdict role limits all frames verdict
    × IsWithinLimit limits all verdict × IsPlanFor frames verdict answer
IsPlannedWhole role limits all (Err stop.InputLimit) =
    (limits.input < length all) × IsUnrefused role limits (take limits.input all)
IsPlannedWhole role limits all (Err stopped) = ⊤

-- ---- an input restored

-- The input's own bytes were written: up to its tail, which is what comes after its Close, or all without a Close.
abbrev pub IsRestored : List ℕ → Verdict → Outgoing → Outgoing → Type 0
IsRestored all (Accepted summary) before after =
    IsWritten before after (take summary.used all) × (summary.used + summary.tail ≡ length all)
    × (summary.close ≡ None → summary.tail ≡ 0)
IsRestored all verdict before after = ⊥

-- ---- while planning

-- the step of a frame with this head
abbrev pub step_of_head : HeadInfo → Step
step_of_head info =
    if is_control info.op then Control info.key
    else (if info.fin then Last info.key info.form else Piece info.len info.key info.form)

-- The scan has consumed these bytes, and the plan is that of the frames that it has taken.
pub record HasScannedPlan (role : Role) (limits : Limits) (scan : Scan) (bytes : List ℕ) (plan : List Step) : Type 0 where
  pub frames : List Frame
  pub since : List ℕ
  pub position : Position
  pub has_scanned : HasScanned role limits scan bytes frames since position
  pub steps : plan ≡ plan_of frames

-- Whatever the scan had consumed, it has now consumed the first n bytes of the chunk too, and the plan has the steps of
-- the frames that it took of them too.
abbrev pub PlansPrefix : Scan → Scan → List ℕ → ℕ → List Step → List Step → Type 0
PlansPrefix old new chunk n before after =
    (role : Role) (limits : Limits) (bytes : List ℕ) → HasScannedPlan role limits old bytes before
    → HasScannedPlan role limits new (bytes ++ take n chunk) after

-- Whatever the scan had consumed, a frame ends in this chunk.
abbrev pub HasFrameEnd : Scan → List ℕ → Type 0
HasFrameEnd old chunk =
    (role : Role) (limits : Limits) (bytes : List ℕ) (heads : List HeadInfo) →
    HasScannedBytes role limits old bytes heads → HasWholeFrame role limits (bytes ++ chunk)

-- The scan has consumed the chunk up to a refusal, if there is one, and the plan has the steps of the frames that it
-- took. Or an allocation failed, after a frame's end in the chunk.
abbrev pub IsPlannedChunk : Scan → Scan → List ℕ → List Step → List Step → Result (Option Refusal) Stop → Type 0
IsPlannedChunk old new chunk before after (Ok refusal) =
    (fed : HasFed old new chunk refusal) × PlansPrefix old new chunk fed.count before after
IsPlannedChunk old new chunk before after (Err stopped) = (stopped ≡ stop.Memory) × HasFrameEnd old chunk

-- The answer with this verdict, by the plan of the frames.
abbrev pub IsAnswerWith : {A : Type 0} → Verdict → List Step → PlanAnswer A → Type 0
IsAnswerWith (Accepted summary) plan (Plan steps) = (summary.unfinished ≡ None) × (steps ≡ plan)
IsAnswerWith (Accepted summary) plan Unfinished = summary.unfinished ≢ None
IsAnswerWith (Accepted summary) plan (NotAccepted answered) = ⊥
IsAnswerWith verdict plan answer = answer ≡ NotAccepted verdict
