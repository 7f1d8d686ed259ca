-- What the calls answer.
use Rattle.std.specs.Prelude.{ℕ, false, Result, Ok, Err, List, []}
use Rattle.std.specs.declared.alloc.Global.{Global}
use Rattle.wsn_io.specs.declared.stop.Stop.{Stop}
use Rattle.wsn_capture.specs.declared.capture_report.CaptureReport.{CaptureReport}
use Rattle.wsn_rules.specs.declared.verdict.Verdict.{Verdict}
use Rattle.wsn_print.specs.FaultText.{stop_line}
use Rattle.wsn_redact.specs.declared.capture_redacting.RedactStop.{RedactStop}
use Rattle.wsn_show.specs.declared.showing.ShowStop.{ShowStop}
use Rattle.wsn_print.specs.declared.style.Style.{Style}
use Rattle.wsn_command.specs.declared.job.Job.{Job}
use Rattle.wsn_job.specs.Calls.{Call, Gives, IsRunOver}
use Rattle.wsn_job.specs.Closings.{closing_stop_line}
use Rattle.wsn_job.specs.Redactions.{redact_stop_line}
use Rattle.wsn_page.specs.declared.answer.Answer.{Answer}
use Rattle.wsn_page.specs.declared.settings.Settings.{Settings}
use Rattle.wsn_page.specs.Asking.{IsStyleAsked}

-- a call, from each by itself
abbrev pub call : List ℕ → List ℕ → List ℕ → List ℕ → Answer → Call
call output_before output_after message_before message_after answer = record {
  output_before = output_before;
  output_after = output_after;
  message_before = message_before;
  message_after = message_after;
  output_size = answer.output;
  message_size = answer.message;
  status = answer.status;
}

-- The call gives what the command's run over these bytes prints.
abbrev pub GivesRun : Job Global → List ℕ → Call → Type 0
GivesRun job bytes done = (text said : List ℕ) × (exit : ℕ) × IsRunOver job bytes text said false exit × Gives done text said exit

-- The call gives what the command's run over these bytes prints, in the style that the settings ask for.
abbrev pub GivesShown : Settings → (Style → Job Global) → List ℕ → Call → Type 0
GivesShown settings job bytes done = (style : Style) × IsStyleAsked settings style × GivesRun (job style) bytes done

-- ---- messages

-- the message for a capture's report or stop: none for a report
abbrev pub shown_message : Result CaptureReport ShowStop → List ℕ
shown_message (Ok read) = []
shown_message (Err stopped) = closing_stop_line stopped

-- the message for a capture's redaction: none once all is written
abbrev pub redacted_message : Result (Unit {0}) RedactStop → List ℕ
redacted_message (Ok done) = []
redacted_message (Err stopped) = redact_stop_line stopped

-- the message for a stream's verdict or stop: none for a verdict
abbrev pub stream_message : Result Verdict Stop → List ℕ
stream_message (Ok verdict) = []
stream_message (Err stopped) = stop_line stopped
