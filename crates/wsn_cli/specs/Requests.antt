-- The requests that a command line makes.
use Rattle.std.specs.Prelude.{◌≡◌, ◌≤◌, ◌^◌, ℕ, Option, None, Some, IfSome, List, map, codes, string_bytes}
use Rattle.wsn_wire.specs.declared.endpoint.Role.{Role}
use Rattle.wsn_rules.specs.Limits.{Limits, InRange}
use Rattle.wsn_print.specs.declared.format.Format.{Format}
use Rattle.wsn_print.specs.declared.style.Style.{Style}
use Rattle.wsn_command.specs.Jobs.{MayRun, job_role}
use Rattle.wsn_command.specs.declared.job.How.{How}
use Rattle.wsn_command.specs.declared.job.Job.{Job, TheVariants.{Judge, Frames, Normal, Redact, Plan, Recut, Payload, ShowStream, Closing, Show, RedactCapture}}
use Rattle.wsn_cli.specs.Inputs.{AreApart, dashes}
use Rattle.wsn_cli.specs.declared.request.Request.{Request, TheVariants.{Run, RecutBy, Same, Closings, Help}}

-- The limits are in range, and the input limit is the greatest: no option changes it.
pub record AreAskedLimits (limits : Limits) : Type 0 where
  pub range : InRange limits
  pub input : limits.input ≡ 2 ^ 40

-- the limits under which a job reads its input
abbrev pub job_limits : {A : Type 0} → Job A → Limits
job_limits (Judge role limits format) = limits
job_limits (Frames role limits format) = limits
job_limits (Normal role limits) = limits
job_limits (Redact role limits) = limits
job_limits (Plan role limits) = limits
job_limits (Recut role limits how) = limits
job_limits (Payload role limits at) = limits
job_limits (ShowStream role limits style) = limits
job_limits (Closing limits format) = limits
job_limits (Show limits style) = limits
job_limits (RedactCapture limits) = limits

-- the offset at which the event begins whose payload is asked for
abbrev pub job_at : {A : Type 0} → Job A → Option ℕ
job_at (Payload role limits at) = Some at
job_at job = None

-- the format of a job's answer; a stream, a payload, a plan or a capture that is written has none
abbrev pub job_format : {A : Type 0} → Job A → Option Format
job_format (Judge role limits format) = Some format
job_format (Frames role limits format) = Some format
job_format (Closing limits format) = Some format
job_format (ShowStream role limits style) = Some style.format
job_format (Show limits style) = Some style.format
job_format job = None

-- the style in which a job shows a stream or a capture
abbrev pub job_style : {A : Type 0} → Job A → Option Style
job_style (ShowStream role limits style) = Some style
job_style (Show limits style) = Some style
job_style job = None

-- how a job recuts
abbrev pub job_how : {A : Type 0} → Job A → Option (How A)
job_how (Recut role limits how) = Some how
job_how job = None

-- the name of a job's command
abbrev pub job_name : {A : Type 0} → Job A → List ℕ
job_name (Judge role limits format) = codes "judge"
job_name (Frames role limits format) = codes "frames"
job_name (Normal role limits) = codes "normal"
job_name (Redact role limits) = codes "redact"
job_name (Plan role limits) = codes "plan"
job_name (Recut role limits how) = codes "recut"
job_name (Payload role limits at) = codes "payload"
job_name (ShowStream role limits style) = codes "show"
job_name (Closing limits format) = codes "closing"
job_name (Show limits style) = codes "show"
job_name (RedactCapture limits) = codes "redact"

-- The side of a capture that is read, if one is, is the stream that the job reads.
abbrev pub IsOwnSide : {A : Type 0} → Job A → Option Role → Type 0
IsOwnSide job side = IfSome side (λ role. job_role job ≡ Some role)

-- The request can be carried out: its job may be run, its limits are as above, the side that is read is that of the
-- endpoint whose stream it is, and at most one input is standard input. Help reads no stream.
abbrev pub CanBeDone : Request → Type 0
CanBeDone (Run job file side) = MayRun job × AreAskedLimits (job_limits job) × IsOwnSide job side
CanBeDone (RecutBy asked) =
    AreAskedLimits asked.limits × AreApart asked.plan asked.file × IfSome asked.side (λ own. own ≡ asked.role)
CanBeDone (Same comparison first second side) =
    AreAskedLimits comparison.limits × AreApart first second × IfSome side (λ own. own ≡ comparison.role)
CanBeDone (Closings limits format files) = AreAskedLimits limits × (dashes (map string_bytes files.items) ≤ 1)
CanBeDone (Help text) = Unit {0}
