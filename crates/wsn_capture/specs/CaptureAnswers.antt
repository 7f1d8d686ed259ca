-- The answer to a capture's text: the report of its lines, with the bytes after both Closes and the lines with offending
-- bytes; or its first line that isn't accepted.
use Rattle.std.specs.Prelude.{◌≡◌, ℕ, suc, ◌+◌, ◌*◌, ◌<◌, ◌≤◌, ◌⊎◌, false, true, Result, Ok, Err, List, ◌∷◌, ◌++◌, length}
use Rattle.std.specs.List.{AllByRecursion}
use Rattle.std.specs.Io.KnownBytes.{IsAtEnd}
use Rattle.wsn_io.specs.Transfer.{Incoming, IsReceived}
use Rattle.wsn_rules.specs.Limits.{Limits}
use Rattle.wsn_capture.specs.declared.line_fault.LineFault.{LineFault}
use Rattle.wsn_rules.specs.declared.closing_handshake.Report.{Report}
use Rattle.wsn_capture.specs.declared.capture_report.CaptureReport.{CaptureReport}
use Rattle.wsn_capture.specs.declared.capture_stop.CaptureStop.{CaptureStop, TheVariants.{Read, Line}}
use Rattle.wsn_rules.specs.TextLines.{IsLine, ended, AreLines}
use Rattle.wsn_rules.specs.Entries.{Entry}
use Rattle.wsn_capture.specs.LineFaults.{AreAcceptedLines, IsFaultAfter}
use Rattle.wsn_rules.specs.ClosingHandshake.{IsReport}
use Rattle.wsn_capture.specs.TailCounts.{AreTails}
use Rattle.wsn_capture.specs.RefusedLines.{AreRefusedLines}

-- ---- the answer to a text

-- All lines of the text are accepted, and these are their report, the numbers of bytes after both Closes, and the lines
-- with the offending bytes of refused streams.
pub record IsReported (limits : Limits) (text : List ℕ) (read : CaptureReport) : Type 0 where
  pub lines : List (List ℕ)
  pub are : AreLines text lines
  pub given : List Entry
  pub taken : AreAcceptedLines limits lines given
  pub is : IsReport limits lines read.report
  pub tails : AreTails limits given read.tails
  pub refused : AreRefusedLines limits given read.refused

-- The line with this number, counted from 1, is the first that isn't accepted, and this is its first fault.
pub record IsFaulty (limits : Limits) (text : List ℕ) (number : ℕ) (fault : LineFault) : Type 0 where
  pub before : List (List ℕ)
  pub line : List ℕ
  pub after : List (List ℕ)
  pub are : AreLines text (before ++ line ∷ after)
  pub at : number ≡ length before + 1
  pub is : IsFaultAfter limits before line fault

-- The correct answer to a text, if no read fails.
abbrev pub IsCaptureAnswerOf : Limits → List ℕ → Result CaptureReport CaptureStop → Type 0
IsCaptureAnswerOf limits text (Ok read) = IsReported limits text read
IsCaptureAnswerOf limits text (Err (Line number fault)) = IsFaulty limits text number fault
IsCaptureAnswerOf limits text (Err Read) = ⊥

-- the same answer, but of the report alone
abbrev pub without_tails : Result CaptureReport CaptureStop → Result Report CaptureStop
without_tails (Ok read) = Ok read.report
without_tails (Err stop) = Err stop

-- ---- the answer to an input

-- the number of bytes that make a line too long whatever follows, even a CR
abbrev pub begun_most : ℕ
begun_most = 8196

-- Every line that came whole is accepted, and the unfinished line isn't yet too long whatever follows.
pub record IsUnfaulted (limits : Limits) (came : List ℕ) : Type 0 where
  pub lines : List (List ℕ)
  pub begun : List ℕ
  pub whole : came ≡ ended lines ++ begun
  pub each : AllByRecursion IsLine lines
  pub in_line : IsLine begun
  pub short : length begun < begun_most
  pub given : List Entry
  pub taken : AreAcceptedLines limits lines given

-- The fault is certain from one byte on, whatever follows, and from no earlier byte: this byte ends the line, or makes
-- it too long whatever follows. At most 4,095 bytes came after it.
pub record IsPrompt (limits : Limits) (came : List ℕ) (number : ℕ) (fault : LineFault) : Type 0 where
  pub earlier : List ℕ
  pub last : ℕ
  pub ahead : List ℕ
  pub whole : came ≡ earlier ++ last ∷ ahead
  pub unfaulted : IsUnfaulted limits earlier
  pub is_evident : (last ≡ 10) ⊎ (suc (length unfaulted.begun) ≡ begun_most)
  pub is_faulty : (later : List ℕ) → IsFaulty limits (earlier ++ last ∷ later) number fault
  pub few : length ahead ≤ 4095

-- The fault is certain from the bytes that came, whatever follows, or from the end of the input.
abbrev pub IsFaultReported : Limits → Incoming → List ℕ → ℕ → LineFault → Type 0
IsFaultReported limits new came number fault =
    IsPrompt limits came number fault
    ⊎ (IsFaulty limits came number fault × IsUnfaulted limits came × IsAtEnd new.remaining)

-- The answer fits the bytes that came. A report comes only at the end of an input, and only if no read failed.
abbrev pub IsCaptureAnswer : Limits → Incoming → List ℕ → Result CaptureReport CaptureStop → Type 0
IsCaptureAnswer limits new came (Ok read) =
    IsReported limits came read × IsAtEnd new.remaining × (new.failed ≡ false)
IsCaptureAnswer limits new came (Err (Line number fault)) =
    IsFaultReported limits new came number fault × (new.failed ≡ false)
IsCaptureAnswer limits new came (Err Read) = (new.failed ≡ true) × IsUnfaulted limits came

-- These bytes came from the input, and the answer is the answer to them.
pub record IsCaptureJudged (limits : Limits) (old new : Incoming) (result : Result CaptureReport CaptureStop) : Type 0 where
  pub came : List ℕ
  pub received : IsReceived (1000001 * begun_most + 4095) old new came
  pub answer : IsCaptureAnswer limits new came result
