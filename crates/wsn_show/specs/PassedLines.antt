-- How the text that came is related to the lines that a view has shown.
use Rattle.std.specs.Prelude.{◌≡◌, ℕ, ◌+◌, true, Result, Ok, Err, List, [], ◌++◌, flat_map, length}
use Rattle.wsn_io.specs.Transfer.{Outgoing, IsWritten, IsPartlyWritten, IsWrittenBut, IsWrittenAtLeast}
use Rattle.wsn_rules.specs.Limits.{Limits}
use Rattle.wsn_rules.specs.Entries.{Entry}
use Rattle.wsn_rules.specs.ShownCapture.{ShownLine, AreShownAfter}
use Rattle.wsn_print.specs.declared.style.Style.{Style}
use Rattle.wsn_show.specs.Styles.{styled_line}
use Rattle.wsn_capture.specs.declared.capture_report.CaptureReport.{CaptureReport}
use Rattle.wsn_capture.specs.declared.capture_stop.CaptureStop.TheVariants as capture
use Rattle.wsn_capture.specs.LineFaults.{IsFaultAfter}
use Rattle.wsn_capture.specs.LineSplitters.{HasPassedOn, IsStopWithin}
use Rattle.wsn_capture.specs.TailCounts.{AreTails}
use Rattle.wsn_capture.specs.RefusedLines.{AreRefusedLines}
use Rattle.wsn_capture.specs.CaptureAnswers.{IsFaulty, IsUnfaulted}
use Rattle.wsn_show.specs.declared.capture_view.CaptureView.{CaptureView}
use Rattle.wsn_show.specs.declared.showing.ShowStop.{ShowStop, TheVariants.{Capture, Write}}
use Rattle.wsn_show.specs.CaptureViews.{HasShownLines, ShowsLine}
use Rattle.wsn_show.specs.Showing.{IsTextOfLines, BeginWithLines, IsTextOf, IsWholeText, IsPrintedBefore, IsTextSoFar}

-- These bytes came: whole lines, which the view has shown, and a line that has begun. What the lines show was printed.
pub record HasPrinted (limits : Limits) (style : Style) (first : Outgoing) (view : CaptureView) (begun : List ℕ)
    (now : Outgoing) (came : List ℕ) : Type 0 where
  pub lines : List (List ℕ)
  pub passed : HasPassedOn limits lines begun came
  pub entries : List Entry
  pub has_shown : HasShownLines limits style view lines entries
  pub shown : List ShownLine
  pub are : AreShownAfter style.detail limits [] [] lines entries shown
  pub printed : IsWritten first now (flat_map (styled_line style) shown)

-- Some bytes came.
pub record IsPrinting (view : CaptureView) (begun : List ℕ) (now : Outgoing) : Type 0 where
  pub limits : Limits
  pub style : Style
  pub first : Outgoing
  pub came : List ℕ
  pub has_printed : HasPrinted limits style first view begun now came

-- The stop is at the line after these lines: it is faulty, and nothing was printed of it; or a write failed.
abbrev pub StopsAtLine :
    Limits → Style → CaptureView → List (List ℕ) → List Entry → List ℕ → Outgoing → Outgoing → ShowStop → Type 0
StopsAtLine limits style new lines entries line before after (Capture (capture.Line number fault)) =
    (number ≡ length lines + 1) × IsFaultAfter limits lines line fault × (after ≡ before)
StopsAtLine limits style new lines entries line before after (Capture capture.Read) = ⊥
StopsAtLine limits style new lines entries line before after Write =
    ShowsLine limits style new lines entries line before after × (after.failed ≡ true)

-- The stop is within the chunk, after the bytes that came.
abbrev pub StopsWithin : Limits → Style → Outgoing → Outgoing → List ℕ → List ℕ → ShowStop → Type 0
StopsWithin limits style first now came chunk (Capture (capture.Line number fault)) =
    IsStopWithin limits came chunk (capture.Line number fault)
    × ((lines : List (List ℕ)) × (text : List ℕ) × BeginWithLines (came ++ chunk) lines × (number ≡ length lines + 1)
    × IsTextOfLines limits style lines text × IsWritten first now text)
StopsWithin limits style first now came chunk (Capture capture.Read) = ⊥
StopsWithin limits style first now came chunk Write =
    ((text : List ℕ) × IsTextOf limits style (came ++ chunk) text × IsPartlyWritten first now text)
    × IsWrittenBut (length chunk) (IsTextSoFar limits style) (came ++ chunk) first now

-- ---- the end of the text

-- The view has shown these lines, and what they show was printed.
pub record HasPrintedLines (limits : Limits) (style : Style) (first : Outgoing) (view : CaptureView)
    (lines : List (List ℕ)) (now : Outgoing) : Type 0 where
  pub entries : List Entry
  pub has_shown : HasShownLines limits style view lines entries
  pub shown : List ShownLine
  pub are : AreShownAfter style.detail limits [] [] lines entries shown
  pub printed : IsWritten first now (flat_map (styled_line style) shown)

-- The answer where the text ends, and what was printed of it.
abbrev pub EndsShowing : Limits → Style → Outgoing → Outgoing → List ℕ → Result CaptureReport ShowStop → Type 0
EndsShowing limits style first now came (Ok read) =
    (text : List ℕ) × (whole : IsWholeText limits style came read.report text) × AreTails limits whole.entries read.tails
    × AreRefusedLines limits whole.entries read.refused
    × IsWritten first now text
EndsShowing limits style first now came (Err (Capture (capture.Line number fault))) =
    IsFaulty limits came number fault × IsUnfaulted limits came × IsPrintedBefore limits style came number first now
EndsShowing limits style first now came (Err (Capture capture.Read)) = ⊥
EndsShowing limits style first now came (Err Write) =
    ((text : List ℕ) × IsTextOf limits style came text × IsPartlyWritten first now text)
    × IsWrittenAtLeast (IsTextSoFar limits style came) first now
