-- What `closing` prints on standard output and standard error, and its exit status.
use Rattle.std.specs.Prelude.{◌≡◌, ℕ, Result, Ok, Err, List}
use Rattle.wsn_io.specs.Transfer.{Incoming, Outgoing, IsWritten, IsPartlyWritten}
use Rattle.wsn_rules.specs.Limits.{Limits}
use Rattle.wsn_rules.specs.declared.closing_handshake.Report.{Report}
use Rattle.wsn_capture.specs.declared.capture_report.CaptureReport.{CaptureReport}
use Rattle.wsn_capture.specs.CaptureAnswers.{IsCaptureJudged}
use Rattle.wsn_io.specs.declared.stop.Stop.TheVariants as stop
use Rattle.wsn_print.specs.declared.format.Format.{Format}
use Rattle.wsn_print.specs.Formats.{report_text}
use Rattle.wsn_print.specs.NamedReportText.{named_report_text}
use Rattle.wsn_print.specs.Statuses.{outcome_status}
use Rattle.wsn_print.specs.FaultText.{stop_line}
use Rattle.wsn_show.specs.declared.showing.ShowStop.{ShowStop, TheVariants.{Capture, Write}}
use Rattle.wsn_job.specs.Channels.{Channels}
use Rattle.wsn_job.specs.Diagnostics.{IsDiagnosed, capture_stop_line}

-- The text of the report was printed; before a stop, nothing was. If a write failed, there is a report, and a prefix of
-- its text was printed.
abbrev pub IsTextPrinted :
    (Report → List ℕ) → Limits → Incoming → Incoming → Outgoing → Outgoing → Result CaptureReport ShowStop → Type 0
IsTextPrinted text limits old new before after (Ok read) =
    IsCaptureJudged limits old new (Ok read) × IsWritten before after (text read.report)
IsTextPrinted text limits old new before after (Err (Capture stopped)) =
    IsCaptureJudged limits old new (Err stopped) × (after ≡ before)
IsTextPrinted text limits old new before after (Err Write) =
    (read : CaptureReport) × IsCaptureJudged limits old new (Ok read) × IsPartlyWritten before after (text read.report)

-- The report was printed in this format.
abbrev pub IsReportPrinted :
    Format → Limits → Incoming → Incoming → Outgoing → Outgoing → Result CaptureReport ShowStop → Type 0
IsReportPrinted format = IsTextPrinted (report_text format)

-- The report was printed in this format, in one line with the name of the capture's file.
abbrev pub IsNamedReportPrinted :
    Format → List ℕ → Limits → Incoming → Incoming → Outgoing → Outgoing → Result CaptureReport ShowStop → Type 0
IsNamedReportPrinted format name = IsTextPrinted (named_report_text format name)

-- the exit status for a report or a stop: 2 for a stop
abbrev pub closing_status : Result CaptureReport ShowStop → ℕ
closing_status (Ok read) = outcome_status read.report.outcome
closing_status (Err stopped) = 2

-- the line for a stop
abbrev pub closing_stop_line : ShowStop → List ℕ
closing_stop_line (Capture stopped) = capture_stop_line stopped
closing_stop_line Write = stop_line stop.Write

-- A stop is reported in its line; for a report nothing is written to standard error.
abbrev pub IsClosingDiagnosed : Result CaptureReport ShowStop → Outgoing → Outgoing → Type 0
IsClosingDiagnosed (Ok read) old new = new ≡ old
IsClosingDiagnosed (Err stopped) old new = IsDiagnosed old new (closing_stop_line stopped)

-- `closing` of one of several captures: the same, but for the text.
abbrev pub IsNamedClosingRun : Format → List ℕ → Limits → Channels → Channels → ℕ → Type 0
IsNamedClosingRun format name limits before after status = (done : Result CaptureReport ShowStop)
    × IsNamedReportPrinted format name limits before.input after.input before.output after.output done
    × (status ≡ closing_status done) × IsClosingDiagnosed done before.errors after.errors
