-- What a job's work came to, for crates that can't name the private type.
use Rattle.std.specs.Prelude.{Result}
use Rattle.wsn_io.specs.declared.stop.Stop.{Stop}
use Rattle.wsn_rules.specs.declared.verdict.Verdict.{Verdict}
use Rattle.wsn_capture.specs.declared.capture_report.CaptureReport.{CaptureReport}
use Rattle.wsn_show.specs.declared.showing.ShowStop.{ShowStop}
use Rattle.wsn_redact.specs.declared.capture_redacting.RedactStop.{RedactStop}
use Rattle.wsn_job.specs.declared.done.Done.{Done}
use Rattle.wsn_job.specs.declared.done.Done.TheVariants as done

abbrev pub shown : {A : Type 0} → Result CaptureReport ShowStop → Done A
shown answer = done.Show answer

abbrev pub stream_shown : {A : Type 0} → Result Verdict Stop → Done A
stream_shown answer = done.ShowStream answer

abbrev pub stream_redacted : {A : Type 0} → Result Verdict Stop → Done A
stream_redacted answer = done.Redact answer

abbrev pub capture_redacted : {A : Type 0} → Result (Unit {0}) RedactStop → Done A
capture_redacted answer = done.RedactCapture answer
