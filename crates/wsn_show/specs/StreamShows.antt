-- What is printed of the stream that one endpoint sent: what is shown of it, what is left over, and the verdict.
use Rattle.std.specs.Prelude.{◌≡◌, ℕ, ◌+◌, ◌⊎◌, Result, Ok, Err, List, [], ◌++◌, take}
use Rattle.wsn_io.specs.Transfer.{Incoming, Outgoing, IsReceived, IsWritten, IsPartlyWritten, IsWrittenBut, IsWrittenAtLeast}
use Rattle.wsn_io.specs.declared.stop.Stop.{Stop}
use Rattle.wsn_io.specs.declared.stop.Stop.TheVariants as stop
use Rattle.wsn_wire.specs.Frame.{Frame}
use Rattle.wsn_wire.specs.declared.endpoint.Role.{Role}
use Rattle.wsn_rules.specs.declared.verdict.Verdict.{Verdict, TheVariants.{Refused}}
use Rattle.wsn_rules.specs.Limits.{Limits}
use Rattle.wsn_rules.specs.Verdict.{IsVerdict}
use Rattle.wsn_rules.specs.ShownStream.{Item, Shown, IsShownStream, IsLeftOver}
use Rattle.wsn_print.specs.ShownParts.EntryPosition.{InStream}
use Rattle.wsn_scan.specs.Judging.{chunk_size}
use Rattle.wsn_parts.specs.Listing.{IsListAnswer}
use Rattle.wsn_print.specs.declared.style.Style.{Style}
use Rattle.wsn_show.specs.Styles.{styled_items, styled_verdict}
use Rattle.wsn_show.specs.ShownSoFar.{items_in}

-- The text of what is shown of these bytes as they come, in this style.
pub record IsItemText (role : Role) (limits : Limits) (style : Style) (bytes text : List ℕ) : Type 0 where
  pub shown : List Shown
  pub is_shown : IsShownStream style.detail role limits bytes shown
  pub is : text ≡ styled_items style role InStream (items_in shown)

-- What is left over where the stream ends; nothing after a refusal, which ends the reading.
abbrev pub IsLeftWith : Role → Limits → List ℕ → Verdict → List Item → Type 0
IsLeftWith role limits bytes (Refused refusal) left = left ≡ []
IsLeftWith role limits bytes verdict left = IsLeftOver role limits bytes left

-- The whole text for a stream of these bytes: what is shown of them, what is left over, and their verdict.
pub record IsStreamText (role : Role) (limits : Limits) (style : Style) (bytes : List ℕ) (verdict : Verdict) (text : List ℕ)
    : Type 0 where
  pub frames : List Frame
  pub is_verdict : IsVerdict role limits bytes frames verdict
  pub items : List ℕ
  pub are_items : IsItemText role limits style bytes items
  pub left : List Item
  pub is_left : IsLeftWith role limits bytes verdict left
  pub is : text ≡ (items ++ styled_items style role InStream left) ++ styled_verdict style verdict

-- A text that is printed of these bytes: as they come, or the whole text.
abbrev pub IsPrintedText : Role → Limits → Style → List ℕ → List ℕ → Type 0
IsPrintedText role limits style bytes text =
    IsItemText role limits style bytes text ⊎ ((verdict : Verdict) × IsStreamText role limits style bytes verdict text)

-- After the text of what is shown of these bytes, the rest was printed, since the stream ends here; `first` is the
-- output before it all.
abbrev pub EndsStream :
    Role → Limits → Style → List ℕ → Outgoing → Outgoing → Result Verdict Stop → Type 0
EndsStream role limits style bytes first after (Ok verdict) =
    (text : List ℕ) × IsStreamText role limits style bytes verdict text × IsWritten first after text
EndsStream role limits style bytes first after (Err stopped) = (stopped ≡ stop.Write)
    × ((text : List ℕ) × IsPrintedText role limits style bytes text × IsPartlyWritten first after text)
    × IsWrittenAtLeast (IsItemText role limits style bytes) first after

-- What was printed at each answer, of the bytes within the limit: with a verdict the whole text; after a failed write a
-- prefix; at any other stop what is shown of these bytes.
abbrev pub IsStreamPrinted : Role → Limits → Style → List ℕ → Outgoing → Outgoing → Result Verdict Stop → Type 0
IsStreamPrinted role limits style came before after (Ok verdict) =
    (text : List ℕ) × IsStreamText role limits style (take limits.input came) verdict text × IsWritten before after text
IsStreamPrinted role limits style came before after (Err stop.Write) =
    (text : List ℕ) × IsPrintedText role limits style (take limits.input came) text × IsPartlyWritten before after text
IsStreamPrinted role limits style came before after (Err stopped) =
    (text : List ℕ) × IsItemText role limits style (take limits.input came) text × IsWritten before after text

-- These bytes came from the input, at most one past its limit. The answer is right for them, as that of a list of frames
-- is, and this was printed of them. After a failed write nothing more was read: all but at most the last chunk was shown.
pub record IsStreamShown (role : Role) (limits : Limits) (style : Style) (old new : Incoming) (before after : Outgoing)
    (result : Result Verdict Stop) : Type 0 where
  pub came : List ℕ
  pub received : IsReceived (limits.input + 1) old new came
  pub answer : IsListAnswer role limits new came result
  pub printed : IsStreamPrinted role limits style came before after result
  pub at_once : result ≡ Err stop.Write → IsWrittenBut chunk_size (IsItemText role limits style) came before after
