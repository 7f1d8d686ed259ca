-- What a run came to: its exit status, and its answer.
use Rattle.std.specs.Prelude.{ℕ, Result, Ok, Err}
use Rattle.wsn_io.specs.declared.stop.Stop.{Stop}
use Rattle.wsn_rules.specs.declared.verdict.Verdict.{Verdict as GivenVerdict}
use Rattle.wsn_command.specs.declared.answered.Answer.{Answer, TheVariants.{Verdict, Stopped, Report, Other, FaultyLine}}
use Rattle.wsn_command.specs.declared.answered.Ran.{Ran}
use Rattle.wsn_rules.specs.declared.compared.Compared.{Compared}
use Rattle.wsn_rules.specs.declared.compared.Compared.TheVariants as compared
use Rattle.wsn_plan.specs.declared.planning.PlanAnswer.{PlanAnswer}
use Rattle.wsn_plan.specs.declared.planning.PlanAnswer.TheVariants as plans
use Rattle.wsn_plan.specs.declared.recutting.RecutAnswer.{RecutAnswer}
use Rattle.wsn_plan.specs.declared.recutting.RecutAnswer.TheVariants as recuts
use Rattle.wsn_parts.specs.declared.answer.Payload.{Payload}
use Rattle.wsn_parts.specs.declared.answer.Payload.TheVariants as payloads
use Rattle.wsn_capture.specs.declared.capture_report.CaptureReport.{CaptureReport}
use Rattle.wsn_capture.specs.declared.capture_stop.CaptureStop.TheVariants as capture
use Rattle.wsn_show.specs.declared.showing.ShowStop.{ShowStop, TheVariants.{Capture}}
use Rattle.wsn_redact.specs.declared.capture_redacting.RedactStop.{RedactStop}
use Rattle.wsn_redact.specs.declared.capture_redacting.RedactStop.TheVariants as redacting

-- what a run came to, with this exit status and this answer
abbrev pub ran_with : ℕ → Answer → Ran
ran_with status answer = record { status = status; answer = answer }

-- a verdict, or none after a stop
abbrev pub verdict_answer : Result GivenVerdict Stop → Answer
verdict_answer (Ok verdict) = Verdict verdict
verdict_answer (Err stopped) = Stopped

-- The verdict on a stream that isn't accepted; any other answer is of an accepted stream.
abbrev pub plan_answer : {A : Type 0} → Result (PlanAnswer A) Stop → Answer
plan_answer (Ok (plans.NotAccepted verdict)) = Verdict verdict
plan_answer (Ok answer) = Other
plan_answer (Err stopped) = Stopped

-- The same for `recut`.
abbrev pub recut_answer : Result RecutAnswer Stop → Answer
recut_answer (Ok (recuts.NotAccepted verdict)) = Verdict verdict
recut_answer (Ok answer) = Other
recut_answer (Err stopped) = Stopped

-- The verdict at which the event or a head at the offset isn't complete, or before which nothing begins at the offset; any
-- other answer comes before the stream's end.
abbrev pub payload_answer : Result Payload Stop → Answer
payload_answer (Ok (payloads.Unfinished verdict)) = Verdict verdict
payload_answer (Ok (payloads.Head start verdict)) = Verdict verdict
payload_answer (Ok (payloads.Nothing verdict)) = Verdict verdict
payload_answer (Ok answer) = Other
payload_answer (Err stopped) = Stopped

-- a report, with the bytes after both Closes; none at a line that isn't accepted, and after any other stop
abbrev pub report_answer : Result CaptureReport ShowStop → Answer
report_answer (Ok read) = Report read
report_answer (Err (Capture (capture.Line number fault))) = FaultyLine
report_answer (Err stopped) = Stopped

-- another answer than a report once a capture's redaction is written; a line that isn't accepted, or any other stop
abbrev pub redacted_answer : Result (Unit {0}) RedactStop → Answer
redacted_answer (Ok done) = Other
redacted_answer (Err (redacting.Capture (capture.Line number fault))) = FaultyLine
redacted_answer (Err stopped) = Stopped

-- The verdict on the stream that isn't accepted; any other answer is of two accepted streams.
abbrev pub compared_answer : Result Compared Stop → Answer
compared_answer (Ok (compared.NotAccepted second verdict)) = Verdict verdict
compared_answer (Ok answer) = Other
compared_answer (Err stopped) = Stopped
