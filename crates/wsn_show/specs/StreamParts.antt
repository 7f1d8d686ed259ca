-- What is kept of a stream: the open message, and the frame that has begun or comes next.
use Rattle.std.specs.Prelude.{◌≡◌, ◌≢◌, ℕ, ◌≤◌, ◌⊎◌, ⊤, true, false, Option, None, Some, List, [], ◌∷◌, ◌++◌, length, if◌then◌else◌}
use Rattle.wsn_wire.specs.declared.opcode.Op.{Op, TheVariants.{Text, Binary}}
use Rattle.wsn_wire.specs.Frame.{Frame, is_control, stream}
use Rattle.wsn_text.specs.Utf8.{BeginsText}
use Rattle.wsn_rules.specs.declared.head_info.HeadInfo.{HeadInfo}
use Rattle.wsn_rules.specs.BadCharacter.{open_payload}
use Rattle.wsn_rules.specs.Group.{unfinished, first_op, payload_of}
use Rattle.wsn_rules.specs.ShownStream.{Item, open_offset, frame_so_far, items_of_head, items_of_part}
use Rattle.wsn_scan.specs.Positions.{Position, BetweenFrames, InFrame}
use Rattle.wsn_show.specs.declared.message_so_far.MessageSoFar.{MessageSoFar}
use Rattle.wsn_show.specs.declared.stream_parts.StreamParts.{StreamParts}
use Rattle.wsn_show.specs.PayloadsSoFar.{HasPayload}
use Rattle.wsn_show.specs.HeldParts.{HasFirst, HasLast, HasEarlier}
use Rattle.wsn_show.specs.LastPayloads.{HasLastPayload}

-- ---- the open message

-- After the frames fs, this is kept of the open message for views of n bytes: the number of its frames and of their payload
-- bytes, the end of these, the first bytes of their payload and of `part`, and if there is one its first frame's opcode
-- and offset.
pub record KeepsMessage (n : ℕ) (message : MessageSoFar) (fs : List Frame) (part : List ℕ) : Type 0 where
  pub frames : message.frames ≡ length (unfinished fs)
  pub bytes : message.bytes ≡ length (payload_of (unfinished fs))
  pub payload : HasPayload n message.payload (payload_of (unfinished fs) ++ part)
  pub earlier : HasEarlier message.earlier (payload_of (unfinished fs))
  pub last : HasLastPayload message.last (open_payload fs)
  pub op : unfinished fs ≢ [] → message.op ≡ first_op (unfinished fs)
  pub offset : unfinished fs ≢ [] → message.offset ≡ open_offset fs

-- The message to which the data frame f belongs after the frames fs has this opcode and this offset.
pub record HasJoined (message : MessageSoFar) (fs : List Frame) (f : Frame) : Type 0 where
  pub op : message.op ≡ first_op (unfinished fs ++ f ∷ [])
  pub offset : message.offset ≡ open_offset fs

-- The payload so far of the data frame that has begun; nothing of a control.
abbrev pub data_part : Position → List ℕ
data_part BetweenFrames = []
data_part (InFrame head payload) = if is_control head.op then [] else payload

-- If a data frame has begun, this is kept of the message to which it belongs.
abbrev pub HasJoinedAt : MessageSoFar → List Frame → Position → Type 0
HasJoinedAt message fs BetweenFrames = ⊤
HasJoinedAt message fs (InFrame head payload) =
    is_control head.op ≡ false → HasJoined message fs (frame_so_far head payload)

-- ---- the frame that has begun

-- Its head, if it is complete.
abbrev pub head_at : Position → Option HeadInfo
head_at BetweenFrames = None
head_at (InFrame head payload) = Some head

-- Its bytes so far, if its head isn't complete.
abbrev pub rest_at : Position → List ℕ → List ℕ
rest_at BetweenFrames rest = rest
rest_at (InFrame head payload) rest = []

-- Its payload so far, unmasked, if its head is complete; otherwise its bytes so far as they came.
abbrev pub held_at : Position → List ℕ → List ℕ
held_at BetweenFrames rest = rest
held_at (InFrame head payload) rest = payload

-- After the frames fs, this is kept of the next frame, whose bytes so far are `rest`.
pub record KeepsFrame (parts : StreamParts) (fs : List Frame) (at : Position) (rest : List ℕ) : Type 0 where
  pub offset : parts.offset ≡ length (stream fs)
  pub size : parts.size ≡ length rest
  pub head : parts.head ≡ head_at at
  pub begun : HasFirst parts.rest (rest_at at rest)
  pub last : HasLast parts.last (held_at at rest)

-- After the frames fs, at this position in the next frame, whose bytes so far are `rest`, this is kept for views of n
-- bytes.
pub record KeepsStream (n : ℕ) (parts : StreamParts) (fs : List Frame) (at : Position) (rest : List ℕ) : Type 0 where
  pub message : KeepsMessage n parts.message fs (data_part at)
  pub joined : HasJoinedAt parts.message fs at
  pub frame : KeepsFrame parts fs at rest

-- ---- what is shown of it

-- The opcode begins a message.
abbrev pub HasKind : Op → Type 0
HasKind op = (op ≡ Text) ⊎ (op ≡ Binary)

-- What is left over where the stream ends at this position.
abbrev pub items_left : List Frame → Position → List ℕ → List Item
items_left fs BetweenFrames rest = items_of_head fs rest
items_left fs (InFrame head payload) rest = items_of_part fs head payload

-- If the frames are of a text message, their payload begins UTF-8.
abbrev pub BeginsIfText : List Frame → Type 0
BeginsIfText group = first_op group ≡ Text → BeginsText (payload_of group)

-- The frame that has begun can follow: a control has at most 125 bytes, and a data frame belongs to a message, which
-- begins UTF-8 if it is a text.
abbrev pub IsSoundPart : List Frame → Position → Type 0
IsSoundPart fs BetweenFrames = ⊤
IsSoundPart fs (InFrame head payload) = (head.offset ≡ length (stream fs))
    × (is_control head.op ≡ true → length payload ≤ 125)
    × (is_control head.op ≡ false → HasKind (first_op (unfinished fs ++ frame_so_far head payload ∷ [])))
    × (is_control head.op ≡ false → BeginsIfText (unfinished fs ++ frame_so_far head payload ∷ []))
