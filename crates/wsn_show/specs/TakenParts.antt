-- A part of a frame that is taken, and what is shown of it.
use Rattle.std.specs.Prelude.{◌≡◌, ℕ, ◌⊎◌, true, List, ◌++◌}
use Rattle.wsn_io.specs.Transfer.{Outgoing}
use Rattle.wsn_wire.specs.Frame.{Frame, is_control}
use Rattle.wsn_rules.specs.declared.head_info.HeadInfo.{HeadInfo}
use Rattle.wsn_rules.specs.ShownStream.{Shown}
use Rattle.wsn_scan.specs.Positions.{Position}
use Rattle.wsn_show.specs.declared.entry_context.EntryContext.{EntryContext}
use Rattle.wsn_show.specs.declared.message_so_far.MessageSoFar.{MessageSoFar}
use Rattle.wsn_show.specs.declared.stream_parts.StreamParts.{StreamParts}
use Rattle.wsn_show.specs.ShownItems.{Prints}
use Rattle.wsn_show.specs.ShownSoFar.{items_in, shown_so_far}
use Rattle.wsn_show.specs.StreamParts.{KeepsStream}

-- A whole frame with this head is an event by itself: a control, or the only frame of a message.
abbrev pub IsAlone : MessageSoFar → HeadInfo → Type 0
IsAlone message head = (is_control head.op ≡ true) ⊎ ((head.fin ≡ true) × (message.frames ≡ 0))

-- What is shown at these frames and this position beside what was shown before was printed, and this is kept there.
pub record ShowsPart (fs : List Frame) (at : Position) (frames : List Frame) (position : Position) (since : List ℕ)
    (parts : StreamParts) (context : EntryContext) (old new : Outgoing) : Type 0 where
  pub extra : List Shown
  pub is : shown_so_far context.style.detail fs at ++ extra ≡ shown_so_far context.style.detail frames position
  pub printed : Prints context old new (items_in extra)
  pub keeps : KeepsStream context.style.view parts frames position since
