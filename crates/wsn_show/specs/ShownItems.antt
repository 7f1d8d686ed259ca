-- What it means that items were printed.
use Rattle.std.specs.Prelude.{◌≡◌, ℕ, min, List, [], ◌∷◌, if◌then◌else◌}
use Rattle.wsn_io.specs.Transfer.{Outgoing}
use Rattle.wsn_wire.specs.Frame.{Frame}
use Rattle.wsn_rules.specs.declared.detail.Detail.{Detail, TheVariants.{Events, Frames}}
use Rattle.wsn_rules.specs.declared.head_info.HeadInfo.{HeadInfo}
use Rattle.wsn_rules.specs.Meaning.{event_at}
use Rattle.wsn_rules.specs.Summary.{is_close}
use Rattle.wsn_rules.specs.ShownStream.{Item, event_offset, event_frames, items_of_final}
use Rattle.wsn_rules.specs.ShownStream.Item.{Head}
use Rattle.wsn_print.specs.declared.shown.ShownEvent.{ShownEvent}
use Rattle.wsn_print.specs.ShownParts.{EntryPosition, position_of, Represents, HasText}
use Rattle.wsn_shown_text.specs.declared.items.ShownItem.{ShownItem}
use Rattle.wsn_shown_text.specs.declared.items.ShownItem.TheVariants as shown
use Rattle.wsn_show.specs.Styles.{styled_items}
use Rattle.wsn_show.specs.declared.entry_context.EntryContext.{EntryContext}
use Rattle.wsn_parts.specs.Listing.{PrintsMore}

-- Where each entry is.
abbrev pub position_in : EntryContext → EntryPosition
position_in context = position_of context.origin

-- With views of n bytes, the view of an item that is held.
abbrev pub held_view : ℕ → ShownItem → ℕ
held_view n (shown.Refused refusal evidence character) = min n 4096
held_view n (shown.Remainder which bytes) = min n 4096
held_view n item = n

-- These items were printed after what was printed before, up to a failed write.
abbrev pub Prints : EntryContext → Outgoing → Outgoing → List Item → Type 0
Prints context old new items =
    PrintsMore old new (styled_items context.style context.role (position_in context) items)

-- What is printed where the head of a frame is complete.
abbrev pub items_of_begun : Detail → HeadInfo → List Item
items_of_begun Events info = []
items_of_begun Frames info = Head info ∷ []

-- The final frame f, after the frames fs, ends an event at this offset, which this represents in a view of n bytes.
pub record IsEventOf (n : ℕ) (fs : List Frame) (f : Frame) (offset : ℕ) (held : ShownEvent) : Type 0 where
  pub close : is_close held.op ≡ is_close f.op
  pub represents : Represents n held (event_at fs f)
  pub text : HasText (event_at fs f)
  pub offset_is : offset ≡ event_offset fs f
  pub frames : held.frames ≡ event_frames fs f

-- What is printed where a final frame ends, after the frames before it.
abbrev pub items_of_ended : Detail → List Frame → Frame → List Item
items_of_ended Events fs f = items_of_final fs f
items_of_ended Frames fs f = []

-- What is printed where a frame ends, after the frames before it.
abbrev pub items_of_end : Detail → List Frame → Frame → List Item
items_of_end detail fs f = if f.fin then items_of_ended detail fs f else []
