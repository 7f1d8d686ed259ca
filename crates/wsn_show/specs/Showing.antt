-- What is printed of a capture's text.
use Rattle.std.specs.Prelude.{◌≡◌, ℕ, ◌+◌, ◌*◌, ◌⊎◌, true, false, Option, Result, Ok, Err, List, [], ◌++◌, flat_map, length}
use Rattle.std.specs.List.{AllByRecursion}
use Rattle.std.specs.Io.KnownBytes.{IsAtEnd}
use Rattle.wsn_io.specs.Transfer.{Incoming, Outgoing, IsReceived, IsWritten, IsPartlyWritten, IsWrittenBut}
use Rattle.wsn_rules.specs.Limits.{Limits}
use Rattle.wsn_rules.specs.declared.closing_handshake.Report.{Report}
use Rattle.wsn_rules.specs.Entries.{Entry}
use Rattle.wsn_rules.specs.TextLines.{IsLine, ended, AreLines}
use Rattle.wsn_rules.specs.ShownCapture.{ShownLine, AreShownAfter, LeftAtEnd, IsShownCapture}
use Rattle.wsn_scan.specs.Judging.{chunk_size}
use Rattle.wsn_print.specs.declared.style.Style.{Style}
use Rattle.wsn_capture.specs.declared.ended_by.EndedBy.{EndedBy}
use Rattle.wsn_capture.specs.EndedBy.{IsEndedBy}
use Rattle.wsn_show.specs.Styles.{styled_line, styled_capture}
use Rattle.wsn_capture.specs.declared.capture_report.CaptureReport.{CaptureReport}
use Rattle.wsn_capture.specs.declared.capture_stop.CaptureStop.TheVariants as capture
use Rattle.wsn_capture.specs.LineFaults.{AreAcceptedLines}
use Rattle.wsn_capture.specs.TailCounts.{AreTails}
use Rattle.wsn_capture.specs.RefusedLines.{AreRefusedLines}
use Rattle.wsn_capture.specs.CaptureAnswers.{begun_most, IsUnfaulted, IsFaultReported}
use Rattle.wsn_show.specs.declared.showing.ShowStop.{ShowStop, TheVariants.{Capture, Write}}

-- ---- lines

-- These lines are accepted, and this is what is printed of them, in this style.
pub record IsTextOfLines (limits : Limits) (style : Style) (lines : List (List ℕ)) (text : List ℕ) : Type 0 where
  pub entries : List Entry
  pub taken : AreAcceptedLines limits lines entries
  pub shown : List ShownLine
  pub are : AreShownAfter style.detail limits [] [] lines entries shown
  pub is : text ≡ flat_map (styled_line style) shown

-- The bytes begin with these lines, each with its LF; or these are all their lines.
abbrev pub BeginWithLines : List ℕ → List (List ℕ) → Type 0
BeginWithLines came lines =
    ((rest : List ℕ) × AllByRecursion IsLine lines × (came ≡ ended lines ++ rest)) ⊎ AreLines came lines

-- All lines of the text are accepted, and this is what is printed of the capture, with who ended the connection and the
-- report.
pub record IsWholeText (limits : Limits) (style : Style) (came : List ℕ) (report : Report) (text : List ℕ)
    : Type 0 where
  pub lines : List (List ℕ)
  pub are_lines : AreLines came lines
  pub entries : List Entry
  pub taken : AreAcceptedLines limits lines entries
  pub shown : List ShownLine
  pub client : LeftAtEnd
  pub server : LeftAtEnd
  pub is_shown : IsShownCapture style.detail limits lines shown client server report
  pub ended_by : Option EndedBy
  pub is_ended_by : IsEndedBy lines entries report ended_by
  pub is : text ≡ styled_capture style shown client server ended_by report

-- ---- after a failed write

-- The lines are those of the bytes that have ended; or all of them, if the text ends here.
abbrev pub AreLinesSoFar : List ℕ → List (List ℕ) → Type 0
AreLinesSoFar came lines =
    (AllByRecursion IsLine lines × ((begun : List ℕ) × IsLine begun × (came ≡ ended lines ++ begun))) ⊎ AreLines came lines

-- What is printed of these lines of the bytes.
abbrev pub IsTextSoFar : Limits → Style → List ℕ → List ℕ → Type 0
IsTextSoFar limits style came text =
    (lines : List (List ℕ)) × AreLinesSoFar came lines × IsTextOfLines limits style lines text

-- ---- the answer

-- What was printed of the lines before the faulty one.
abbrev pub IsPrintedBefore : Limits → Style → List ℕ → ℕ → Outgoing → Outgoing → Type 0
IsPrintedBefore limits style came number before after = (lines : List (List ℕ)) × (text : List ℕ)
    × BeginWithLines came lines × (number ≡ length lines + 1) × IsTextOfLines limits style lines text
    × IsWritten before after text

-- What was printed of the lines that came whole.
abbrev pub IsPrintedOfWhole : Limits → Style → List ℕ → Outgoing → Outgoing → Type 0
IsPrintedOfWhole limits style came before after = (lines : List (List ℕ)) × (begun text : List ℕ)
    × AllByRecursion IsLine lines × IsLine begun × (came ≡ ended lines ++ begun) × IsTextOfLines limits style lines text
    × IsWritten before after text

-- A text that is printed of the bytes that came: of the first lines, or of the whole capture.
abbrev pub IsTextOf : Limits → Style → List ℕ → List ℕ → Type 0
IsTextOf limits style came text =
    ((lines : List (List ℕ)) × BeginWithLines came lines × IsTextOfLines limits style lines text)
    ⊎ ((report : Report) × IsWholeText limits style came report text)

-- The answer fits the bytes that came, and this was printed of them. A report comes only at the end of an input.
abbrev pub IsShowAnswer : Limits → Style → Incoming → List ℕ → Outgoing → Outgoing → Result CaptureReport ShowStop → Type 0
IsShowAnswer limits style new came before after (Ok read) =
    (text : List ℕ) × (whole : IsWholeText limits style came read.report text) × AreTails limits whole.entries read.tails
    × AreRefusedLines limits whole.entries read.refused
    × IsWritten before after text × IsAtEnd new.remaining × (new.failed ≡ false)
IsShowAnswer limits style new came before after (Err (Capture (capture.Line number fault))) =
    IsFaultReported limits new came number fault × (new.failed ≡ false)
    × IsPrintedBefore limits style came number before after
IsShowAnswer limits style new came before after (Err (Capture capture.Read)) =
    (new.failed ≡ true) × IsUnfaulted limits came × IsPrintedOfWhole limits style came before after
IsShowAnswer limits style new came before after (Err Write) =
    (new.failed ≡ false) × ((text : List ℕ) × IsTextOf limits style came text × IsPartlyWritten before after text)

-- These bytes came from the input, and the answer is right for them. After a failed write nothing more was read: all but
-- at most the last chunk was shown.
pub record IsShown (limits : Limits) (style : Style) (old new : Incoming) (before after : Outgoing)
    (result : Result CaptureReport ShowStop) : Type 0 where
  pub came : List ℕ
  pub received : IsReceived (1000001 * begun_most + 4095) old new came
  pub answer : IsShowAnswer limits style new came before after result
  pub at_once : result ≡ Err Write → IsWrittenBut chunk_size (IsTextSoFar limits style) came before after
