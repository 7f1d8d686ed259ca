-- What is printed of a stream: a line for each of its heads, and one for its verdict, in a format.
use Rattle.std.specs.Prelude.{◌≡◌, ℕ, ◌+◌, ◌<◌, ◌≤◌, false, Option, Result, Ok, Err, List, ◌++◌, length, take, ⊤}
use Rattle.wsn_wire.specs.declared.endpoint.Role.{Role}
use Rattle.wsn_wire.specs.declared.refusal.Reason.{Reason}
use Rattle.wsn_wire.specs.Frame.{Frame}
use Rattle.wsn_io.specs.Transfer.{Incoming, Outgoing, IsReceived, IsWritten, IsPartlyWritten, IsWrittenUpToFailure, IsWrittenBut}
use Rattle.wsn_rules.specs.declared.head_info.HeadInfo.{HeadInfo}
use Rattle.wsn_rules.specs.declared.verdict.Verdict.{Verdict}
use Rattle.wsn_io.specs.declared.stop.Stop.{Stop}
use Rattle.wsn_io.specs.declared.stop.Stop.TheVariants as stop
use Rattle.wsn_rules.specs.declared.verdict.Refusal.{Refusal}
use Rattle.wsn_scan.specs.declared.scan.Scan.{Scan}
use Rattle.wsn_rules.specs.Limits.{Limits}
use Rattle.wsn_rules.specs.Verdict.{IsRefused, IsUnrefused}
use Rattle.wsn_print.specs.declared.format.Format.{Format, TheVariants.{Text}}
use Rattle.wsn_print.specs.Formats.{heads_text, verdict_text}
use Rattle.wsn_scan.specs.Feeding.{HasFed}
use Rattle.wsn_scan.specs.Judging.{HasVerdictAndHeads, IsJudgeAnswer, IsWithinLimit, chunk_size}

-- the lines of the heads, and then the verdict's line
abbrev pub listing : Format → List HeadInfo → Verdict → List ℕ
listing format heads verdict = heads_text format heads ++ verdict_text format verdict

-- The scan has consumed the chunk up to a refusal, if there is one, and the lines of the heads that it reported were
-- written, up to a failed write.
pub record IsListedChunk (format : Format) (old new : Scan) (before after : Outgoing) (chunk : List ℕ)
    (refusal : Option Refusal) : Type 0 where
  pub fed : HasFed old new chunk refusal
  pub printed : IsWrittenUpToFailure before after (heads_text format fed.heads)

-- This text was written after what was printed before, up to a failed write.
abbrev pub PrintsMore : Outgoing → Outgoing → List ℕ → Type 0
PrintsMore before after text =
    (first : Outgoing) (printed : List ℕ) → IsWrittenUpToFailure first before printed
    → IsWrittenUpToFailure first after (printed ++ text)

-- Of the text that was held, the front was written after what was printed before, up to a failed write, and the rest is
-- still held.
abbrev pub PrintsHeld : Outgoing → Outgoing → List ℕ → List ℕ → Type 0
PrintsHeld before after held rest =
    (front : List ℕ) × (front ++ rest ≡ held) × PrintsMore before after front

-- After the lines of any heads, of which this was held and the rest was printed, the lines of these heads were printed
-- up to a failed write, or are held.
abbrev pub ListsMore : Format → Outgoing → Outgoing → List ℕ → List ℕ → List HeadInfo → Type 0
ListsMore format before after held rest more =
    (first : Outgoing) (heads : List HeadInfo) → PrintsHeld first before (heads_text format heads) held
    → PrintsHeld first after (heads_text format (heads ++ more)) rest

-- The verdict is returned and its line was written; or the write failed, and a prefix of the line was written.
abbrev pub IsEnded : Format → Outgoing → Outgoing → Verdict → Result Verdict Stop → Type 0
IsEnded format before after verdict (Ok answer) = (answer ≡ verdict) × IsWritten before after (verdict_text format verdict)
IsEnded format before after verdict (Err stopped) =
    (stopped ≡ stop.Write) × IsPartlyWritten before after (verdict_text format verdict)

-- What was written at each answer: with a verdict, the whole listing; after a failed write, a prefix of the listing of
-- the bytes within the limit; at any other stop, the lines of the heads in those bytes.
abbrev pub IsPrinted : Format → Role → Limits → List ℕ → Outgoing → Outgoing → Result Verdict Stop → Type 0
IsPrinted format role limits came before after (Ok verdict) =
    (heads : List HeadInfo) × HasVerdictAndHeads role limits came heads verdict
    × IsWritten before after (listing format heads verdict)
IsPrinted format role limits came before after (Err stop.Write) =
    (heads : List HeadInfo) × (verdict : Verdict)
    × HasVerdictAndHeads role limits (take limits.input came) heads verdict
    × IsPartlyWritten before after (listing format heads verdict)
IsPrinted format role limits came before after (Err stopped) =
    (heads : List HeadInfo) × (verdict : Verdict)
    × HasVerdictAndHeads role limits (take limits.input came) heads verdict
    × IsWritten before after (heads_text format heads)

-- If the bytes that came are refused, at most `chunk_size` - 1 of them came after the offending byte.
abbrev pub IsReadUpToRefusal : Role → Limits → List ℕ → Type 0
IsReadUpToRefusal role limits came =
    (fs : List Frame) (offset : ℕ) (reason : Reason) → IsRefused role limits came fs offset reason
    → length came ≤ offset + chunk_size

-- The answer is right for the bytes that came, as a judge's is. If a write failed, no read has, and the bytes that came
-- end as soon after a refusal as a judge's do.
abbrev pub IsListAnswer : Role → Limits → Incoming → List ℕ → Result Verdict Stop → Type 0
IsListAnswer role limits new came (Err stop.Write) = (new.failed ≡ false) × IsReadUpToRefusal role limits came
IsListAnswer role limits new came result = IsJudgeAnswer role limits new came result

-- This is the text of the lines of all heads in the bytes.
abbrev pub IsHeadsText : Format → Role → Limits → List ℕ → List ℕ → Type 0
IsHeadsText format role limits bytes text = (heads : List HeadInfo)
    × ((verdict : Verdict) × HasVerdictAndHeads role limits bytes heads verdict) × (text ≡ heads_text format heads)

-- These bytes came from the input, at most one past its limit. The answer is right for them, and this was printed of
-- them. After a failed write nothing more was read: of all but at most the last chunk, the heads' lines were written.
pub record IsListedAs (format : Format) (role : Role) (limits : Limits) (old new : Incoming)
    (before after : Outgoing) (result : Result Verdict Stop) : Type 0 where
  pub came : List ℕ
  pub received : IsReceived (limits.input + 1) old new came
  pub answer : IsListAnswer role limits new came result
  pub printed : IsPrinted format role limits came before after result
  pub at_once : result ≡ Err stop.Write → IsWrittenBut chunk_size (IsHeadsText format role limits) came before after

-- The same of a listing in words.
abbrev pub IsListed :
    Role → Limits → Incoming → Incoming → Outgoing → Outgoing → Result Verdict Stop → Type 0
IsListed = IsListedAs Text

-- ---- an input whose bytes are known

-- The answer for all bytes of an input. With a verdict on them, their listing was written. At the input limit the bytes
-- within it are not refused, and the lines of their heads were written. At any other stop this says nothing.
abbrev pub IsListedWholeAs : Format → Role → Limits → List ℕ → Outgoing → Outgoing → Result Verdict Stop → Type 0
IsListedWholeAs format role limits all before after (Ok verdict) =
    (heads : List HeadInfo) × HasVerdictAndHeads role limits all heads verdict × IsWithinLimit limits all verdict
    × IsWritten before after (listing format heads verdict)
IsListedWholeAs format role limits all before after (Err stop.InputLimit) =
    (limits.input < length all) × IsUnrefused role limits (take limits.input all)
    × ((heads : List HeadInfo) × (verdict : Verdict)
    × HasVerdictAndHeads role limits (take limits.input all) heads verdict
    × IsWritten before after (heads_text format heads))
IsListedWholeAs format role limits all before after (Err stopped) = ⊤

-- The same of a listing in words.
abbrev pub IsListedWhole : Role → Limits → List ℕ → Outgoing → Outgoing → Result Verdict Stop → Type 0
IsListedWhole = IsListedWholeAs Text
