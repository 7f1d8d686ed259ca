-- What a job's run did: what its work came to, and what it said on standard error.
use Rattle.std.specs.Prelude.{◌≡◌, ℕ, ◌<◌}
use Rattle.wsn_io.specs.Transfer.{Incoming, Outgoing}
use Rattle.wsn_io.specs.declared.stop.Stop.TheVariants as stop
use Rattle.wsn_print.specs.declared.style.Style.{Style}
use Rattle.wsn_print.specs.FaultText.{stop_line}
use Rattle.wsn_print.specs.Statuses.{verdict_status}
use Rattle.wsn_parts.specs.Listing.{IsListedAs}
use Rattle.wsn_events.specs.Normalised.{IsNormalised}
use Rattle.wsn_redact.specs.Redacting.{IsRedactedInput}
use Rattle.wsn_redact.specs.RedactingCaptures.{IsRedactedCaptureInput}
use Rattle.wsn_command.specs.declared.job.Job.{Job, TheVariants.{Judge, Frames, Normal, Redact, Plan, Recut, Payload, ShowStream, Closing, Show, RedactCapture}}
use Rattle.wsn_command.specs.declared.answered.Answer.{Answer, TheVariants.{Stopped}}
use Rattle.wsn_command.specs.declared.answered.Ran.{Ran}
use Rattle.wsn_job.specs.declared.done.Done.{Done}
use Rattle.wsn_job.specs.declared.done.Done.TheVariants as done
use Rattle.wsn_job.specs.Channels.{Channels}
use Rattle.wsn_job.specs.Answers.{ran_with, verdict_answer, plan_answer, recut_answer, payload_answer, report_answer, redacted_answer}
use Rattle.wsn_job.specs.Diagnostics.{IsDiagnosed, IsStopDiagnosed, IsVerdictDiagnosed}
use Rattle.wsn_job.specs.Verdicts.{IsVerdictPrinted}
use Rattle.wsn_job.specs.Redactions.{redact_status, IsRedactDiagnosed}
use Rattle.wsn_job.specs.Plans.{IsPlanPrinted, IsPlanDiagnosed, plan_status}
use Rattle.wsn_plan.specs.Recutting.{IsRecut}
use Rattle.wsn_job.specs.Recuts.{IsRecutDiagnosed, planned_by, recut_status}
use Rattle.wsn_parts.specs.Payloads.{IsPayloadTaken}
use Rattle.wsn_job.specs.Payloads.{IsPayloadDiagnosed, payload_status}
use Rattle.wsn_show.specs.Showing.{IsShown}
use Rattle.wsn_show.specs.StreamShows.{IsStreamShown}
use Rattle.wsn_job.specs.Closings.{IsReportPrinted, IsClosingDiagnosed, closing_status}

-- Memory for a view over 4,096 bytes was refused: nothing was read, and nothing was printed.
abbrev pub IsMemoryRefused : Style → Incoming → Incoming → Outgoing → Outgoing → Type 0
IsMemoryRefused style old new before after = (4096 < style.view) × (new ≡ old) × (after ≡ before)

-- What came from the input and what was printed are of the job's answer or stop.
abbrev pub IsDone : {A : Type 0} → Job A → Incoming → Incoming → Outgoing → Outgoing → Done A → Type 0
IsDone (Judge role limits format) old new before after (done.Judge answer) =
    IsVerdictPrinted format role limits old new before after answer
IsDone (Frames role limits format) old new before after (done.Frames answer) =
    IsListedAs format role limits old new before after answer
IsDone (Normal role limits) old new before after (done.Normal answer) =
    IsNormalised role limits old new before after answer
IsDone (Redact role limits) old new before after (done.Redact answer) =
    IsRedactedInput role limits old new before after answer
IsDone (Plan role limits) old new before after (done.Plan answer) = IsPlanPrinted role limits old new before after answer
IsDone (Recut role limits how) old new before after (done.Recut answer) =
    IsRecut role limits (planned_by how) old new before after answer
IsDone (Payload role limits at) old new before after (done.Payload offset answer) =
    (offset ≡ at) × IsPayloadTaken role limits at old new before after answer
IsDone (ShowStream role limits style) old new before after (done.ShowStream answer) =
    IsStreamShown role limits style old new before after answer
IsDone (ShowStream role limits style) old new before after done.Memory = IsMemoryRefused style old new before after
IsDone (Closing limits format) old new before after (done.Closing answer) =
    IsReportPrinted format limits old new before after answer
IsDone (Show limits style) old new before after (done.Show answer) = IsShown limits style old new before after answer
IsDone (Show limits style) old new before after done.Memory = IsMemoryRefused style old new before after
IsDone (RedactCapture limits) old new before after (done.RedactCapture answer) =
    IsRedactedCaptureInput limits old new before after answer
IsDone job old new before after answer = ⊥

-- the exit status
abbrev pub done_status : {A : Type 0} → Done A → ℕ
done_status (done.Judge answer) = verdict_status answer
done_status (done.Frames answer) = verdict_status answer
done_status (done.Normal answer) = verdict_status answer
done_status (done.Redact answer) = redact_status answer
done_status (done.Plan answer) = plan_status answer
done_status (done.Recut answer) = recut_status answer
done_status (done.Payload at answer) = payload_status answer
done_status (done.ShowStream answer) = verdict_status answer
done_status (done.Closing answer) = closing_status answer
done_status (done.Show answer) = closing_status answer
done_status (done.RedactCapture answer) = redact_status answer
done_status done.Memory = 2

-- the answer
abbrev pub done_answer : {A : Type 0} → Done A → Answer
done_answer (done.Judge answer) = verdict_answer answer
done_answer (done.Frames answer) = verdict_answer answer
done_answer (done.Normal answer) = verdict_answer answer
done_answer (done.Redact answer) = verdict_answer answer
done_answer (done.Plan answer) = plan_answer answer
done_answer (done.Recut answer) = recut_answer answer
done_answer (done.Payload at answer) = payload_answer answer
done_answer (done.ShowStream answer) = verdict_answer answer
done_answer (done.Closing answer) = report_answer answer
done_answer (done.Show answer) = report_answer answer
done_answer (done.RedactCapture answer) = redacted_answer answer
done_answer done.Memory = Stopped

-- what the run came to
abbrev pub done_ran : {A : Type 0} → Done A → Ran
done_ran d = ran_with (done_status d) (done_answer d)

-- What is written to standard error.
abbrev pub IsDoneDiagnosed : {A : Type 0} → Done A → Outgoing → Outgoing → Type 0
IsDoneDiagnosed (done.Judge answer) old new = IsStopDiagnosed answer old new
IsDoneDiagnosed (done.Frames answer) old new = IsStopDiagnosed answer old new
IsDoneDiagnosed (done.Normal answer) old new = IsVerdictDiagnosed answer old new
IsDoneDiagnosed (done.Redact answer) old new = IsStopDiagnosed answer old new
IsDoneDiagnosed (done.Plan answer) old new = IsPlanDiagnosed answer old new
IsDoneDiagnosed (done.Recut answer) old new = IsRecutDiagnosed answer old new
IsDoneDiagnosed (done.Payload at answer) old new = IsPayloadDiagnosed at answer old new
IsDoneDiagnosed (done.ShowStream answer) old new = IsStopDiagnosed answer old new
IsDoneDiagnosed (done.Closing answer) old new = IsClosingDiagnosed answer old new
IsDoneDiagnosed (done.Show answer) old new = IsClosingDiagnosed answer old new
IsDoneDiagnosed (done.RedactCapture answer) old new = IsRedactDiagnosed answer old new
IsDoneDiagnosed done.Memory old new = IsDiagnosed old new (stop_line stop.Memory)

-- The job's run: its channels before and after, and what it came to, are of one answer.
abbrev pub IsRun : {A : Type 0} → Job A → Channels → Channels → Ran → Type 0
IsRun {A} job before after ran = (d : Done A) × IsDone job before.input after.input before.output after.output d
    × (ran ≡ done_ran d) × IsDoneDiagnosed d before.errors after.errors
