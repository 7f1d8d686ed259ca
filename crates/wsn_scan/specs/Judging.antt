-- What reading an input to its verdict answers, and what the answer says of the bytes that came.
use Rattle.std.specs.Prelude.{◌≡◌, ℕ, ◌+◌, ◌<◌, ◌≤◌, false, true, Result, Ok, Err, List, ◌++◌, length, take}
use Rattle.std.specs.Io.KnownBytes.{IsAtEnd}
use Rattle.wsn_wire.specs.declared.endpoint.Role.{Role}
use Rattle.wsn_wire.specs.declared.refusal.Reason.{Reason}
use Rattle.wsn_wire.specs.Frame.{Frame}
use Rattle.wsn_io.specs.Transfer.{Incoming, IsReceived}
use Rattle.wsn_rules.specs.declared.verdict.Verdict.{Verdict, TheVariants.{Refused}}
use Rattle.wsn_io.specs.declared.stop.Stop.{Stop}
use Rattle.wsn_io.specs.declared.stop.Stop.TheVariants as stop
use Rattle.wsn_rules.specs.Limits.{Limits}
use Rattle.wsn_rules.specs.Verdict.{IsRefused, IsUnrefused, IsVerdict}
use Rattle.wsn_rules.specs.declared.head_info.HeadInfo.{HeadInfo}
use Rattle.wsn_rules.specs.Heads.{AreHeads}

-- The maximum number of bytes that one read returns.
abbrev pub chunk_size : ℕ
chunk_size = 4096

-- The verdict on the bytes that came. A refusal holds whatever follows; its offset is within the limit, and at most
-- `chunk_size` - 1 bytes came after it. Any other verdict is on the whole input, which ended within the limit.
abbrev pub IsReached : Role → Limits → Incoming → List ℕ → Verdict → Type 0
IsReached role limits new came (Refused refusal) =
    (fs : List Frame) × ((later : List ℕ) → IsRefused role limits (came ++ later) fs refusal.offset refusal.reason)
    × (length came ≤ refusal.offset + chunk_size) × (refusal.offset < limits.input) × (new.failed ≡ false)
IsReached role limits new came verdict =
    (fs : List Frame) × IsVerdict role limits came fs verdict × IsAtEnd new.remaining × (length came ≤ limits.input)
    × (new.failed ≡ false)

-- The stop after the bytes that came. At the input limit, one byte past it came, and the bytes within it are not
-- refused. At a failed read, no byte past the limit came, and the bytes are not refused.
abbrev pub IsStopped : Role → Limits → Incoming → List ℕ → Stop → Type 0
IsStopped role limits new came stop.InputLimit =
    (length came ≡ limits.input + 1) × IsUnrefused role limits (take limits.input came) × (new.failed ≡ false)
IsStopped role limits new came stop.Read =
    (new.failed ≡ true) × (length came ≤ limits.input) × IsUnrefused role limits came
IsStopped role limits new came stop.Memory = ⊥
IsStopped role limits new came stop.Write = ⊥

-- The answer is right for the bytes that came: their verdict, or a stop.
abbrev pub IsJudgeAnswer : Role → Limits → Incoming → List ℕ → Result Verdict Stop → Type 0
IsJudgeAnswer role limits new came (Ok verdict) = IsReached role limits new came verdict
IsJudgeAnswer role limits new came (Err stopped) = IsStopped role limits new came stopped

-- These bytes came from the input, at most one past its limit, and the answer is right for them.
pub record IsJudgedOf (role : Role) (limits : Limits) (old new : Incoming) (came : List ℕ)
    (result : Result Verdict Stop) : Type 0 where
  pub received : IsReceived (limits.input + 1) old new came
  pub answer : IsJudgeAnswer role limits new came result

-- The verdict is reached within the limit: a refusal at an offset within it, any other at the input's end.
abbrev pub IsWithinLimit : Limits → List ℕ → Verdict → Type 0
IsWithinLimit limits all (Refused refusal) = refusal.offset < limits.input
IsWithinLimit limits all verdict = length all ≤ limits.input

-- Some bytes came, and the answer is right for them.
abbrev pub IsJudged : Role → Limits → Incoming → Incoming → Result Verdict Stop → Type 0
IsJudged role limits old new result = (came : List ℕ) × IsJudgedOf role limits old new came result

-- The bytes have this verdict, and these are all their heads.
pub record HasVerdictAndHeads (role : Role) (limits : Limits) (bytes : List ℕ) (heads : List HeadInfo)
    (verdict : Verdict) : Type 0 where
  pub frames : List Frame
  pub is_verdict : IsVerdict role limits bytes frames verdict
  pub are_heads : AreHeads role limits bytes frames heads
