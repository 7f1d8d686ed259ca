-- What a capture's view has shown, and what it shows of one more line.
use Rattle.std.specs.Prelude.{◌≡◌, ℕ, ◌+◌, ◌⊎◌, Option, Some, List, [], ◌∷◌, ◌++◌, length, flat_map}
use Rattle.wsn_wire.specs.declared.endpoint.Role.{Role, TheVariants.{Client, Server}}
use Rattle.wsn_io.specs.Transfer.{Outgoing, IsWrittenUpToFailure}
use Rattle.wsn_rules.specs.Limits.{Limits}
use Rattle.wsn_rules.specs.Entries.{Entry, GivesEntry, without_cr, end_mark}
use Rattle.wsn_rules.specs.Entries.Entry.{Mark}
use Rattle.wsn_rules.specs.Sides.{sent}
use Rattle.wsn_rules.specs.declared.closing_handshake.Report.{Report}
use Rattle.wsn_rules.specs.ClosingHandshake.{IsReportOf}
use Rattle.wsn_rules.specs.ShownCapture.{LineItem, ShownLine, GivesTime, GivesNoTime, IsTimeAfter, IsShownOfEntry, LeftAtEnd, IsLeftAtEnd}
use Rattle.wsn_print.specs.declared.style.Style.{Style}
use Rattle.wsn_capture.specs.declared.ended_by.EndedBy.{EndedBy}
use Rattle.wsn_capture.specs.EndedBy.{IsEndedBy}
use Rattle.wsn_show.specs.EndNotes.{HasNotedEnd, HasNotedTimes}
use Rattle.wsn_show.specs.Styles.{styled_line_item, styled_line, styled_left, styled_ended_by}
use Rattle.wsn_capture.specs.declared.line_fault.LineFault.{LineFault}
use Rattle.wsn_capture.specs.LineFaults.{HasFault}
use Rattle.wsn_capture.specs.CaptureLines.{HasAccepted, HasNotedCloses, count_of}
use Rattle.wsn_print.specs.ShownParts.{EntryPosition}
use Rattle.wsn_print.specs.ShownParts.EntryPosition.{InLine}
use Rattle.wsn_show.specs.ShownSoFar.{HasViewed}
use Rattle.wsn_show.specs.declared.capture_view.CaptureView.{CaptureView}
use Rattle.wsn_parts.specs.Listing.{PrintsMore}

-- ---- lines that were shown

-- The view has the streams of both endpoints as these entries give them.
pub record AreViewed (limits : Limits) (style : Style) (view : CaptureView) (entries : List Entry) : Type 0 where
  pub client : HasViewed Client limits style view.client (sent Client entries)
  pub server : HasViewed Server limits style view.server (sent Server entries)

-- The view has shown these lines, which gave these entries, in this style.
pub record HasShownLines (limits : Limits) (style : Style) (view : CaptureView) (lines : List (List ℕ))
    (entries : List Entry) : Type 0 where
  pub accepted : HasAccepted limits view.lines lines entries
  pub noted : HasNotedCloses limits view.lines entries
  pub viewed : AreViewed limits style view entries
  pub time : IsTimeAfter lines view.time
  pub times : HasNotedTimes view.last_times lines entries
  pub ends : HasNotedEnd view.ends lines entries

-- The view has shown some lines, or none.
pub record IsShowingLines (view : CaptureView) : Type 0 where
  pub limits : Limits
  pub style : Style
  pub lines : List (List ℕ)
  pub entries : List Entry
  pub has_shown : HasShownLines limits style view lines entries

-- ---- one more line

-- After lines with the entries `given`, the text of a line has no fault, and gives this entry.
pub record IsAcceptedText (limits : Limits) (given : List Entry) (text : List ℕ) (entry : Entry) : Type 0 where
  pub gives : GivesEntry text entry
  pub none : (fault : LineFault) → HasFault limits given text fault → ⊥

-- The text can be shown: it is accepted after the lines whose streams the view has.
pub record CanShow (view : CaptureView) (text : List ℕ) : Type 0 where
  pub limits : Limits
  pub style : Style
  pub given : List Entry
  pub entry : Entry
  pub viewed : AreViewed limits style view given
  pub accepted : IsAcceptedText limits given text entry

-- The time that holds after a text: the one that it gives, or the one that held before.
abbrev pub IsTimeNext : Option (List ℕ) → List ℕ → Option (List ℕ) → Type 0
IsTimeNext before text after =
    ((seconds : List ℕ) × GivesTime text seconds × (after ≡ Some seconds)) ⊎ (GivesNoTime text × (after ≡ before))

-- Where the view's last line is: its number, and the time that holds.
abbrev pub line_position : CaptureView → EntryPosition
line_position view = InLine (count_of view.lines) view.time

-- What a text with this entry shows was printed, with the time that held before it.
pub record ShowsText (limits : Limits) (style : Style) (old new : CaptureView) (given : List Entry) (text : List ℕ)
    (entry : Entry) (before after : Outgoing) : Type 0 where
  pub viewed : AreViewed limits style new (given ++ entry ∷ [])
  pub time : IsTimeNext old.time text new.time
  pub items : List LineItem
  pub shows : IsShownOfEntry style.detail limits given text entry items
  pub printed : IsWrittenUpToFailure before after (flat_map (styled_line_item style (line_position old)) items)

-- What an endpoint's end mark shows was printed, at this position.
pub record ShowsMark (role : Role) (limits : Limits) (style : Style) (given : List Entry) (position : EntryPosition)
    (before after : Outgoing) : Type 0 where
  pub items : List LineItem
  pub shows : IsShownOfEntry style.detail limits given (end_mark role) (Mark role) items
  pub printed : IsWrittenUpToFailure before after (flat_map (styled_line_item style position) items)

-- Whatever lines the view has shown, what an accepted text shows was printed.
abbrev pub Shows : CaptureView → CaptureView → List ℕ → Outgoing → Outgoing → Type 0
Shows old new text before after =
    (limits : Limits) (style : Style) (given : List Entry) (entry : Entry) → AreViewed limits style old given
    → IsAcceptedText limits given text entry → ShowsText limits style old new given text entry before after

-- After these lines the view has shown one more, and what it shows was printed.
pub record ShowsLine (limits : Limits) (style : Style) (new : CaptureView) (lines : List (List ℕ)) (given : List Entry)
    (line : List ℕ) (before after : Outgoing) : Type 0 where
  pub entry : Entry
  pub has_shown : HasShownLines limits style new (lines ++ line ∷ []) (given ++ entry ∷ [])
  pub shown : ShownLine
  pub numbered : shown.number ≡ length lines + 1
  pub at : IsTimeAfter lines shown.time
  pub shows : IsShownOfEntry style.detail limits given (without_cr line) entry shown.items
  pub printed : IsWrittenUpToFailure before after (styled_line style shown)

-- ---- the end

-- What is left over of an endpoint's stream at the end of the capture was printed after what was printed before.
pub record LeavesAtEnd (role : Role) (limits : Limits) (style : Style) (lines : List (List ℕ)) (entries : List Entry)
    (old new : Outgoing) : Type 0 where
  pub left : LeftAtEnd
  pub is_left : IsLeftAtEnd role limits lines entries left
  pub printed : PrintsMore old new (styled_left style role left)

-- Who ended the connection was printed after what was printed before.
pub record SaysWhoEnded (style : Style) (lines : List (List ℕ)) (entries : List Entry) (report : Report)
    (old new : Outgoing) : Type 0 where
  pub ended_by : Option EndedBy
  pub is_ended_by : IsEndedBy lines entries report ended_by
  pub printed : PrintsMore old new (styled_ended_by style ended_by)

-- What is left over of both streams and who ended the connection was printed, and this is the report.
pub record Finishes (limits : Limits) (style : Style) (lines : List (List ℕ)) (entries : List Entry)
    (before after : Outgoing) (report : Report) : Type 0 where
  pub client : LeftAtEnd
  pub server : LeftAtEnd
  pub of_client : IsLeftAtEnd Client limits lines entries client
  pub of_server : IsLeftAtEnd Server limits lines entries server
  pub is_report : IsReportOf limits entries report
  pub ended_by : Option EndedBy
  pub is_ended_by : IsEndedBy lines entries report ended_by
  pub printed :
      IsWrittenUpToFailure before after (styled_left style Client client ++ styled_left style Server server
      ++ styled_ended_by style ended_by)
