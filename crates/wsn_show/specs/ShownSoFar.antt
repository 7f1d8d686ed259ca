-- What was shown of a stream whose bytes a scan consumes.
use Rattle.std.specs.Prelude.{◌≡◌, ℕ, ◌+◌, ◌⊎◌, Some, List, [], ◌++◌, length, map}
use Rattle.wsn_io.specs.Transfer.{Outgoing}
use Rattle.wsn_wire.specs.declared.endpoint.Role.{Role}
use Rattle.wsn_wire.specs.Frame.{Frame}
use Rattle.wsn_rules.specs.declared.detail.Detail.{Detail, TheVariants.{Events, Frames}}
use Rattle.wsn_rules.specs.declared.head_info.HeadInfo.{HeadInfo}
use Rattle.wsn_rules.specs.declared.verdict.Refusal.{Refusal}
use Rattle.wsn_rules.specs.Heads.{heads_of}
use Rattle.wsn_rules.specs.Limits.{Limits, InRange}
use Rattle.wsn_rules.specs.Verdict.{IsRefused}
use Rattle.wsn_rules.specs.ShownStream.{Item, Shown, shown_of, shown_head, AreShownFrames, IsShownRefusal}
use Rattle.wsn_scan.specs.declared.scan.Scan.{Scan}
use Rattle.wsn_scan.specs.Feeding.{HasScannedBytes}
use Rattle.wsn_scan.specs.Positions.{Position, begun_at}
use Rattle.wsn_scan.specs.Scans.{refusal_in}
use Rattle.wsn_show.specs.declared.entry_context.EntryContext.{EntryContext}
use Rattle.wsn_show.specs.declared.stream_parts.StreamParts.{StreamParts}
use Rattle.wsn_show.specs.HeldParts.{HasFirst}
use Rattle.wsn_show.specs.StreamParts.{KeepsStream}
use Rattle.wsn_scan.specs.FollowedScans.{HasFollowed}
use Rattle.wsn_show.specs.ShownItems.{Prints}
use Rattle.wsn_print.specs.declared.style.Style.{Style}

-- The items, without the number of bytes with which they are shown.
abbrev pub items_in : List Shown → List Item
items_in = map (λ s. s.item)

-- What is shown of the frames `done` and of the next one up to this position: the events of whole frames, or the heads,
-- also of the next frame if it has begun.
abbrev pub shown_so_far : Detail → List Frame → Position → List Shown
shown_so_far Events done at = shown_of [] done
shown_so_far Frames done at = map shown_head (heads_of done ++ begun_at at)

-- The bytes that came aren't refused, and this was shown of what was taken of their frames.
pub record HasShownFrames (style : Style) (role : Role) (limits : Limits) (scan : Scan) (parts : StreamParts)
    (came : List ℕ) (shown : List Shown) : Type 0 where
  pub done : List Frame
  pub at : Position
  pub rest : List ℕ
  pub followed : HasFollowed role limits scan came done at rest
  pub keeps : KeepsStream style.view parts done at rest
  pub is : shown ≡ shown_so_far style.detail done at

-- The bytes up to `read` are refused at the last one, whatever follows; this was shown of them and the refusal. The
-- bytes `unread` came after them.
pub record HasShownRefusal (detail : Detail) (role : Role) (limits : Limits) (scan : Scan) (parts : StreamParts)
    (came : List ℕ) (shown : List Shown) : Type 0 where
  pub done : List Frame
  pub refusal : Refusal
  pub read : List ℕ
  pub unread : List ℕ
  pub heads : List HeadInfo
  pub whole : came ≡ read ++ unread
  pub scanned : HasScannedBytes role limits scan read heads
  pub reported : refusal_in scan ≡ Some refusal
  pub refused : (later : List ℕ) → IsRefused role limits (read ++ later) done refusal.offset refusal.reason
  pub offset : refusal.offset + 1 ≡ length read
  pub first : HasFirst parts.rest unread
  pub of_frames : List Shown
  pub are_of_frames : AreShownFrames detail role limits read done of_frames
  pub of_refusal : List Shown
  pub is_of_refusal : IsShownRefusal detail role limits read done refusal of_refusal
  pub is : shown ≡ of_frames ++ of_refusal

-- This was shown of the bytes that came.
abbrev pub HasShown : Style → Role → Limits → Scan → StreamParts → List ℕ → List Shown → Type 0
HasShown style role limits scan parts came shown =
    HasShownFrames style role limits scan parts came shown
    ⊎ HasShownRefusal style.detail role limits scan parts came shown

-- More bytes came, and more items were shown and printed.
pub record ShowsMore (role : Role) (limits : Limits) (scan : Scan) (parts : StreamParts) (context : EntryContext)
    (old new : Outgoing) (came : List ℕ) (shown : List Shown) : Type 0 where
  pub extra : List Shown
  pub has : HasShown context.style role limits scan parts came (shown ++ extra)
  pub printed : Prints context old new (items_in extra)

-- The scan has consumed some bytes, or none, and hasn't refused them.
pub record IsShowing (style : Style) (scan : Scan) (parts : StreamParts) : Type 0 where
  pub role : Role
  pub limits : Limits
  pub came : List ℕ
  pub shown : List Shown
  pub frames : HasShownFrames style role limits scan parts came shown

-- The bytes that came aren't refused, and more items were shown, and printed.
pub record ShowsFrames (role : Role) (limits : Limits) (scan : Scan) (parts : StreamParts) (context : EntryContext)
    (old new : Outgoing) (came : List ℕ) (shown : List Shown) : Type 0 where
  pub extra : List Shown
  pub frames : HasShownFrames context.style role limits scan parts came (shown ++ extra)
  pub printed : Prints context old new (items_in extra)

-- What a contract sees of a view: the endpoint, the style, the input limit, how many bytes may still come, and what was
-- read and is kept.
pub record Viewed : Type 0 where
  pub role : Role
  pub style : Style
  pub input : ℕ
  pub room : ℕ
  pub scan : Scan
  pub parts : StreamParts

-- These bytes came, and what is shown of them was printed.
pub record HasViewed (role : Role) (limits : Limits) (style : Style) (viewed : Viewed) (came : List ℕ) : Type 0 where
  pub sender : viewed.role ≡ role
  pub in_style : viewed.style ≡ style
  pub in_range : InRange limits
  pub input : viewed.input ≡ limits.input
  pub room : viewed.room + length came ≡ limits.input
  pub shown : List Shown
  pub has : HasShown style role limits viewed.scan viewed.parts came shown

-- Some bytes came, or none.
pub record IsViewing (viewed : Viewed) : Type 0 where
  pub role : Role
  pub limits : Limits
  pub style : Style
  pub came : List ℕ
  pub has : HasViewed role limits style viewed came
