-- The form of the examples of plans and recuts, and the plans and events in them.
use Rattle.std.specs.Prelude.{◌≡◌, ℕ, Option, None, Some, List, [], ◌∷◌, Bool}
use Rattle.wsn_wire.specs.declared.endpoint.Role.{Role}
use Rattle.wsn_wire.specs.declared.opcode.Kind.TheVariants.{Text}
use Rattle.wsn_wire.specs.declared.length_encoding.Form.TheVariants.{Shortest}
use Rattle.wsn_wire.specs.declared.length_encoding.Lengths.TheVariants.{Any}
use Rattle.wsn_wire.specs.Frame.{Frame}
use Rattle.wsn_rules.specs.declared.step.Step.{Step, TheVariants.{Piece, Last, Control}}
use Rattle.wsn_rules.specs.Limits.{Limits}
use Rattle.wsn_rules.specs.Group.{unfinished}
use Rattle.wsn_rules.specs.Accepted.{IsAccepted}
use Rattle.wsn_rules.specs.Meaning.{MeantEvent, Message, meaning}
use Rattle.wsn_rules.specs.Meaning as meant
use Rattle.wsn_rules.specs.Fitting.{Fits}
use Rattle.wsn_rules.specs.Recut.{recut_bytes, plan_of}
use Rattle.wsn_rules.specs.Examples.{greatest}
use Rattle.wsn_wire.specs.declared.opcode.Op.{Op, TheVariants.{Ping}}

-- A Piece without a key, with the shortest encoding of its length.
abbrev pub bare_piece : ℕ → Step
bare_piece len = Piece len None Shortest

-- The same for a Last.
abbrev pub bare_last : Step
bare_last = Last None Shortest

-- The same for a Control.
abbrev pub bare_control : Step
bare_control = Control None

-- A client's key of zeros.
abbrev pub zeros : Option (List ℕ)
zeros = Some (0 ∷ 0 ∷ 0 ∷ 0 ∷ [])

-- A key.
abbrev pub one_key : Option (List ℕ)
one_key = Some (1 ∷ 2 ∷ 3 ∷ 4 ∷ [])

-- A message in three frames with a control between them, each with a key of its own.
abbrev pub four_keys : List Step
four_keys =
    Piece 1 (Some (0x37 ∷ 0xfa ∷ 0x21 ∷ 0x3d ∷ [])) Shortest ∷ Control (Some (0 ∷ 0 ∷ 0 ∷ 1 ∷ []))
    ∷ Piece 1 (Some (0xff ∷ 0 ∷ 0 ∷ 0 ∷ [])) Shortest ∷ Last zeros Shortest ∷ []

-- An empty Ping, and then the text "Hello".
abbrev pub ping_and_hello : List MeantEvent
ping_and_hello = meant.Control Ping [] ∷ Message Text (0x48 ∷ 0x65 ∷ 0x6c ∷ 0x6c ∷ 0x6f ∷ []) ∷ []

-- The normal form of these events for a server.
abbrev pub whole_ping_and_hello : List ℕ
whole_ping_and_hello = 0x89 ∷ 0x00 ∷ 0x81 ∷ 0x05 ∷ 0x48 ∷ 0x65 ∷ 0x6c ∷ 0x6c ∷ 0x6f ∷ []

-- Two texts of one letter each.
abbrev pub two_letters : List MeantEvent
two_letters = Message Text (0x41 ∷ []) ∷ Message Text (0x42 ∷ []) ∷ []

-- The greatest limits, with a limit on frames.
abbrev pub frames_of : ℕ → Limits
frames_of most = record greatest { frames = Some most }

-- The greatest limits, with any encoding of a length.
abbrev pub any_length : Limits
any_length = record greatest { lengths = Any }

-- The input is accepted and leaves no message unfinished, and this is the plan of its frames.
pub record HasPlan (role : Role) (limits : Limits) (bytes : List ℕ) (plan : List Step) : Type 0 where
  pub frames : List Frame
  pub accepted : IsAccepted role limits bytes frames
  pub finished : unfinished frames ≡ []
  pub is : plan_of frames ≡ plan

-- The input is accepted, the plan fits its meaning, and the recut of the meaning is the other bytes.
pub record RecutsTo (role : Role) (limits : Limits) (bytes : List ℕ) (plan : List Step) (others : List ℕ) : Type 0 where
  pub frames : List Frame
  pub accepted : IsAccepted role limits bytes frames
  pub fits : Fits role limits plan (meaning frames)
  pub is : recut_bytes plan (meaning frames) ≡ others

-- A frame that a server sends.
abbrev pub server_frame : Bool → Op → List ℕ → Frame
server_frame fin op payload = record { fin = fin; op = op; key = None; form = Shortest; payload = payload }
