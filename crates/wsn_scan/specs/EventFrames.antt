-- Frames that are whole in a chunk and each end an event, with the event's normal frame written in their place.
use Rattle.std.specs.Prelude.{◌≡◌, ◌≢◌, ℕ, ◌-◌, true, Option, None, Some, List, [], ◌∷◌, ◌++◌, length, take}
use Rattle.wsn_wire.specs.declared.endpoint.Role.{Role}
use Rattle.wsn_wire.specs.declared.opcode.Op.TheVariants.{Close}
use Rattle.wsn_wire.specs.declared.length_encoding.Form.TheVariants.{Shortest}
use Rattle.wsn_wire.specs.Frame.{Frame, frame_bytes}
use Rattle.wsn_rules.specs.declared.head_info.HeadInfo.{HeadInfo}
use Rattle.wsn_rules.specs.Limits.{Limits, InRange}
use Rattle.wsn_rules.specs.Group.{unfinished}
use Rattle.wsn_rules.specs.Lawful.{LawAt, IsLawful}
use Rattle.wsn_rules.specs.AfterClose.{HasNoClose}
use Rattle.wsn_rules.specs.Meaning.{MeantEvent, event_at, meaning}
use Rattle.wsn_rules.specs.NormalForm.{normal_frame, normal_form}
use Rattle.wsn_scan.specs.declared.part.Part.{Part}
use Rattle.wsn_scan.specs.declared.scan.Scan.{Scan}
use Rattle.wsn_scan.specs.declared.scan.events.EventFrame.{EventFrame}
use Rattle.wsn_scan.specs.declared.stage.Stage.TheVariants as stages
use Rattle.wsn_scan.specs.Positions.{Position, BetweenFrames}
use Rattle.wsn_scan.specs.Scans.{HasScanned}

-- ---- one frame

-- A head's bytes, with zeros in place of the key, if it has one.
abbrev pub with_key_cleared : Option (List ℕ) → List ℕ → List ℕ
with_key_cleared None head = head
with_key_cleared (Some key) head = take (length head - 4) head ++ (0 ∷ 0 ∷ 0 ∷ 0 ∷ [])

-- The frame's size in bytes is that of the found frame, and these are its bytes at the start of the chunk. It is final
-- and lawful after these, has the found frame's opcode and key, encodes its length shortest, and has `len` bytes of
-- payload. `after` begins with the normal frame of the event that it ends.
pub record EndsEventAt (role : Role) (limits : Limits) (fs : List Frame) (chunk after : List ℕ) (found : EventFrame)
    : Type 0 where
  pub frame : Frame
  pub bytes_are : frame_bytes frame ≡ take found.size chunk
  pub law : LawAt role limits fs frame
  pub final : frame.fin ≡ true
  pub op_is : frame.op ≡ found.op
  pub key_is : frame.key ≡ found.key
  pub form_is : frame.form ≡ Shortest
  pub size : length frame.payload ≡ found.len
  pub normal : take found.size after ≡ frame_bytes (normal_frame role (event_at fs frame))

-- The same after any lawful frames without a Close that leave no message open. The frame is no Close.
abbrev pub IsEventFrame : Role → Limits → List ℕ → List ℕ → EventFrame → Type 0
IsEventFrame role limits chunk after found =
    (found.op ≢ Close) × ((fs : List Frame) → InRange limits → IsLawful role limits fs → HasNoClose fs →
    unfinished fs ≡ [] → EndsEventAt role limits fs chunk after found)

-- the head of a found frame whose first byte is at this offset
abbrev pub info_found : ℕ → EventFrame → HeadInfo
info_found offset found =
    record { offset = offset; fin = true; op = found.op; key = found.key; form = Shortest; len = found.len }

-- the part of a chunk that is all of a frame with this head: the chunk has this many bytes of it
abbrev pub whole_part : HeadInfo → ℕ → Part
whole_part head size = record { head = head; begins = true; ends = true; start = size - head.len }

-- ---- a run of frames

-- After the frames fs the scan has consumed more whole frames, up to the end of these bytes. They
-- end the events whose normal form this is, and leave no message open.
pub record ConsumesEvents (role : Role) (limits : Limits) (new : Scan) (bytes : List ℕ) (fs : List Frame)
    (normal : List ℕ) : Type 0 where
  pub frames : List Frame
  pub events : List MeantEvent
  pub has_scanned : HasScanned role limits new bytes frames [] BetweenFrames
  pub none_open : unfinished frames ≡ []
  pub means : meaning frames ≡ meaning fs ++ events
  pub normal_is : normal ≡ normal_form role events

-- Whatever the scan has consumed, it consumes the first n bytes of the chunk, which are such frames, and
-- their events' normal form is in their place.
abbrev pub TakesEvents : Scan → Scan → List ℕ → List ℕ → ℕ → Type 0
TakesEvents old new chunk after n =
    (role : Role) (limits : Limits) (bytes since : List ℕ) (fs : List Frame) (at : Position) →
    HasScanned role limits old bytes fs since at
    → ConsumesEvents role limits new (bytes ++ take n chunk) fs (take n after)

-- The scan is between frames, and no message is open.
abbrev pub IsIdle : Scan → Type 0
IsIdle scan = (scan.stage ≡ stages.Between) × (scan.context.message ≡ None)
