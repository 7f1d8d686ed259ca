-- Which events an event source gives of the bytes that came, and what the answer that it ends with says of them.
use Rattle.std.specs.Prelude.{◌≡◌, ◌≢◌, ℕ, ◌<◌, false, Result, Ok, Err, List, [], ◌++◌, take}
use Rattle.wsn_wire.specs.declared.endpoint.Role.{Role}
use Rattle.wsn_wire.specs.Frame.{Frame, is_control, stream}
use Rattle.wsn_io.specs.Transfer.{Incoming}
use Rattle.wsn_rules.specs.declared.head_info.HeadInfo.{HeadInfo}
use Rattle.wsn_rules.specs.declared.verdict.Verdict.{Verdict}
use Rattle.wsn_io.specs.declared.stop.Stop.{Stop}
use Rattle.wsn_io.specs.declared.stop.Stop.TheVariants as stop
use Rattle.wsn_rules.specs.Limits.{Limits}
use Rattle.wsn_scan.specs.Judging.{IsReached, IsStopped}
use Rattle.wsn_rules.specs.Lawful.{IsLawful}
use Rattle.wsn_rules.specs.AfterClose.{HasNoClose}
use Rattle.wsn_rules.specs.Heads.{BeginsWithHead}
use Rattle.wsn_rules.specs.Meaning.{MeantEvent, meaning}
use Rattle.wsn_rules.specs.Verdict.{IsVerdict}

-- The bytes have this verdict, and the events are their meaning.
abbrev pub IsMeaningOf : Role → Limits → List ℕ → Verdict → List MeantEvent → Type 0
IsMeaningOf role limits bytes verdict events =
    (fs : List Frame) × IsVerdict role limits bytes fs verdict × (events ≡ meaning fs)

-- The events are a prefix of the bytes' meaning.
abbrev pub AreFirstOf : Role → Limits → List ℕ → List MeantEvent → Type 0
AreFirstOf role limits bytes events =
    (verdict : Verdict) × (later : List MeantEvent) × IsMeaningOf role limits bytes verdict (events ++ later)

-- The bytes have payload of a data frame: after lawful frames without a Close comes a data frame's head, which is valid
-- so far and announces payload, and at least one byte comes after it.
pub record HasDataPayload (role : Role) (limits : Limits) (bytes : List ℕ) : Type 0 where
  pub frames : List Frame
  pub lawful : IsLawful role limits frames
  pub no_close : HasNoClose frames
  pub rest : List ℕ
  pub whole : bytes ≡ stream frames ++ rest
  pub info : HeadInfo
  pub begins : BeginsWithHead role limits frames rest info
  pub of_data : is_control info.op ≡ false
  pub some : 0 < info.len
  pub payload : begins.following ≢ []

-- The stop after the bytes that came. At a failed read or the input limit, the events that end within the limit were
-- given. At a failed allocation, some first events of those were given, and a data frame's payload had begun within the
-- limit.
abbrev pub IsHalted : Role → Limits → Incoming → List ℕ → List MeantEvent → Stop → Type 0
IsHalted role limits new came given stop.Memory =
    HasDataPayload role limits (take limits.input came) × AreFirstOf role limits (take limits.input came) given
    × (new.failed ≡ false)
IsHalted role limits new came given halted =
    IsStopped role limits new came halted
    × ((verdict : Verdict) × IsMeaningOf role limits (take limits.input came) verdict given)

-- The answer that a source ends with: the verdict on the bytes that came, whose meaning was given, or a stop.
abbrev pub IsLast : Role → Limits → Incoming → List ℕ → List MeantEvent → Result Verdict Stop → Type 0
IsLast role limits new came given (Ok verdict) =
    IsReached role limits new came verdict × IsMeaningOf role limits came verdict given
IsLast role limits new came given (Err halted) = IsHalted role limits new came given halted
