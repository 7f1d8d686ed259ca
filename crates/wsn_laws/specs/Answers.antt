-- Which answers the laws are about: those whose numbers have the range of their fields' types.
use Rattle.std.specs.Prelude.{◌≡◌, ℕ, ◌<◌, ◌^◌, Option, None, Some, IfSome, List, ⊤}
use Rattle.wsn_wire.specs.Frame.{IsBytes}
use Rattle.wsn_rules.specs.declared.compared.Compared.{Compared, TheVariants.{Equal, Different, NotAccepted}}
use Rattle.wsn_rules.specs.declared.head_info.HeadInfo.{HeadInfo}
use Rattle.wsn_rules.specs.declared.closing_handshake.Report.{Report}
use Rattle.wsn_rules.specs.declared.closing_handshake.Side.{Side}
use Rattle.wsn_rules.specs.declared.closing_handshake.Side.TheVariants as side
use Rattle.wsn_rules.specs.declared.verdict.Summary.{Summary}
use Rattle.wsn_rules.specs.declared.verdict.Verdict.{Verdict, TheVariants.{Accepted, Cut, Refused}}
use Rattle.wsn_print.specs.Objects.{verdict_object, frame_object, report_object, comparison_object}

-- The number fits in 64 bits. No field of an answer has a wider type.
abbrev pub IsInU64 : ℕ → Type 0
IsInU64 n = n < 2 ^ 64

-- ---- verdicts

-- If there is a Close and it has a code, the code is in range.
abbrev pub IsCloseInRange : Option (Option ℕ) → Type 0
IsCloseInRange None = ⊤
IsCloseInRange (Some code) = IfSome code IsInU64

-- Each number of the summary is in range.
pub record IsSummaryInRange (s : Summary) : Type 0 where
  pub used : IsInU64 s.used
  pub tail : IsInU64 s.tail
  pub unfinished : IfSome s.unfinished IsInU64
  pub frames : IsInU64 s.frames
  pub messages : IsInU64 s.messages
  pub pings : IsInU64 s.pings
  pub pongs : IsInU64 s.pongs
  pub close : IsCloseInRange s.close

-- Each number of the verdict is in range.
abbrev pub IsVerdictInRange : Verdict → Type 0
IsVerdictInRange (Accepted s) = IsSummaryInRange s
IsVerdictInRange (Cut s) = IsSummaryInRange s
IsVerdictInRange (Refused refusal) = IsInU64 refusal.offset

-- All that the verdict says is printed: `cut` has no tail and no Close, which its object leaves out.
abbrev pub IsPrintedWhole : Verdict → Type 0
IsPrintedWhole (Accepted s) = ⊤
IsPrintedWhole (Cut s) = (s.tail ≡ 0) × (s.close ≡ None)
IsPrintedWhole (Refused refusal) = ⊤

-- ---- heads

-- The numbers and the key's bytes are in range.
pub record IsHeadInRange (h : HeadInfo) : Type 0 where
  pub offset : IsInU64 h.offset
  pub key : IfSome h.key IsBytes
  pub len : IsInU64 h.len

-- ---- reports

-- Each number of what became of a stream is in range.
abbrev pub IsSideInRange : Side → Type 0
IsSideInRange (side.Closed code) = IfSome code IsInU64
IsSideInRange (side.Refused refusal) = IsInU64 refusal.offset
IsSideInRange side.Ended = ⊤
IsSideInRange side.Cut = ⊤
IsSideInRange side.Running = ⊤

-- Each number of the report is in range.
pub record IsReportInRange (report : Report) : Type 0 where
  pub client : IsSideInRange report.client
  pub server : IsSideInRange report.server
  pub client_sees : IfSome report.client_sees IsInU64
  pub server_sees : IfSome report.server_sees IsInU64

-- ---- comparisons

-- Each number of the comparison is in range.
abbrev pub IsComparisonInRange : Compared → Type 0
IsComparisonInRange Equal = ⊤
IsComparisonInRange (Different k) = IsInU64 k
IsComparisonInRange (NotAccepted second verdict) = IsVerdictInRange verdict

-- All that it says is printed.
abbrev pub IsComparisonPrintedWhole : Compared → Type 0
IsComparisonPrintedWhole Equal = ⊤
IsComparisonPrintedWhole (Different k) = ⊤
IsComparisonPrintedWhole (NotAccepted second verdict) = IsPrintedWhole verdict

-- ---- any of them

-- An answer that has an object of its own.
pub data Answer : Type 0 where
  OfVerdict : Verdict → Answer
  OfHead : HeadInfo → Answer
  OfReport : Report → Answer
  OfComparison : Compared → Answer

-- Its object.
abbrev pub answer_object : Answer → List ℕ
answer_object (OfVerdict verdict) = verdict_object verdict
answer_object (OfHead head) = frame_object head
answer_object (OfReport report) = report_object report
answer_object (OfComparison compared) = comparison_object compared

-- Each number of it is in range.
abbrev pub IsAnswerInRange : Answer → Type 0
IsAnswerInRange (OfVerdict verdict) = IsVerdictInRange verdict
IsAnswerInRange (OfHead head) = IsHeadInRange head
IsAnswerInRange (OfReport report) = IsReportInRange report
IsAnswerInRange (OfComparison compared) = IsComparisonInRange compared

-- All that it says is printed.
abbrev pub IsAnswerPrintedWhole : Answer → Type 0
IsAnswerPrintedWhole (OfVerdict verdict) = IsPrintedWhole verdict
IsAnswerPrintedWhole (OfHead head) = ⊤
IsAnswerPrintedWhole (OfReport report) = ⊤
IsAnswerPrintedWhole (OfComparison compared) = IsComparisonPrintedWhole compared
