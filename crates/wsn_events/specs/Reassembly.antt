-- What an event source keeps: the open message so far, and the frame that has begun.
use Rattle.std.specs.Prelude.{◌≡◌, ◌≢◌, ℕ, ◌+◌, ◌≤◌, ◌⊎◌, true, false, Option, None, Some, List, [], ◌++◌, length}
use Rattle.wsn_wire.specs.declared.opcode.Op.{Op}
use Rattle.wsn_wire.specs.declared.opcode.Op.TheVariants as ops
use Rattle.wsn_wire.specs.declared.opcode.Kind.{Kind}
use Rattle.wsn_wire.specs.declared.opcode.Kind.TheVariants as kinds
use Rattle.wsn_wire.specs.Frame.{Frame, is_control, stream}
use Rattle.wsn_scan.specs.Positions.{Position, BetweenFrames, InFrame}
use Rattle.wsn_rules.specs.Group.{unfinished, kind_of, payload_of}
use Rattle.wsn_rules.specs.Meaning.{event_at}
use Rattle.wsn_rules.specs.ShownStream.{open_offset, event_offset, event_frames}
use Rattle.wsn_events.specs.declared.event.Event.{Event}
use Rattle.wsn_events.specs.declared.reassembly.Reassembly.{Reassembly}
use Rattle.wsn_events.specs.EventsMeant.{meant}

-- The kind is the open message's, if one is open.
abbrev pub IsKindOf : Kind → List Frame → Type 0
IsKindOf k group = group ≢ [] → k ≡ kind_of group

-- The open message begins at this offset, and has this many frames.
pub record HasBegun {A : Type 0} (g : Reassembly A) (offset count : ℕ) : Type 0 where
  pub offset_is : g.start ≡ offset
  pub count_is : g.frames ≡ count

-- Between frames, the open message is the joined payload of its frames so far.
pub record IsBetweenFrames {A : Type 0} (g : Reassembly A) (fs : List Frame) : Type 0 where
  pub message : g.message.items ≡ payload_of (unfinished fs)
  pub kind : IsKindOf g.kind (unfinished fs)
  pub begun : unfinished fs ≢ [] → HasBegun g (open_offset fs) (length (unfinished fs))

-- In a frame with this opcode and this payload so far: a control's payload of at most 125 bytes is kept apart, and a
-- data frame's is appended to the open message.
pub record IsInFrame {A : Type 0} (g : Reassembly A) (fs : List Frame) (o : Op) (payload : List ℕ) : Type 0 where
  pub op : g.op ≡ o
  pub of_control : is_control o ≡ true → IsBetweenFrames g fs
  pub body : is_control o ≡ true → length payload ≤ 125 → g.body.items ≡ payload
  pub message : is_control o ≡ false → g.message.items ≡ payload_of (unfinished fs) ++ payload
  pub text : o ≡ ops.Text → g.kind ≡ kinds.Text
  pub binary : o ≡ ops.Binary → g.kind ≡ kinds.Binary
  pub continued : o ≡ ops.Continue → IsKindOf g.kind (unfinished fs)
  pub offset : g.frame_offset ≡ length (stream fs)
  pub first : (o ≡ ops.Text) ⊎ (o ≡ ops.Binary) → HasBegun g (length (stream fs)) 1
  pub further :
      o ≡ ops.Continue → unfinished fs ≢ [] → HasBegun g (open_offset fs) (length (unfinished fs) + 1)

-- After the frames fs, at this position.
abbrev pub IsReassembled : {A : Type 0} → Reassembly A → List Frame → Position → Type 0
IsReassembled g fs BetweenFrames = IsBetweenFrames g fs
IsReassembled g fs (InFrame info payload) = IsInFrame g fs info.op payload

-- The event that the frame ends after the frames fs; none if the frame isn't final.
abbrev pub IsEventOf : {A : Type 0} → List Frame → Frame → Option (Event A) → Type 0
IsEventOf fs f None = f.fin ≡ false
IsEventOf fs f (Some event) = (f.fin ≡ true) × (meant event ≡ event_at fs f)

-- What is known of the event that a frame with this opcode ends: what is of the whole message if the frame goes on with
-- one, and else what is of the frame.
abbrev pub given_by : Op → ℕ → ℕ → ℕ
given_by ops.Continue message frame = message
given_by op message frame = frame

-- The offset of the first frame of the event that ended last.
abbrev pub offset_given : {A : Type 0} → Reassembly A → ℕ
offset_given g = given_by g.op g.start g.frame_offset

-- The number of its frames.
abbrev pub frames_given : {A : Type 0} → Reassembly A → ℕ
frames_given g = given_by g.op g.frames 1

-- If the frame ends an event after the frames fs, its first frame is at this offset, and it has this many frames.
pub record IsPlacedAt {A : Type 0} (g : Reassembly A) (fs : List Frame) (f : Frame) : Type 0 where
  pub offset : offset_given g ≡ event_offset fs f
  pub count : frames_given g ≡ event_frames fs f
