-- The frame of a plan's next step, by the state of a walk over the events. RFC 6455 section 5.4.
use Rattle.std.specs.Prelude.{ℕ, ◌-◌, ⊤, true, Option, List, length}
use Rattle.wsn_wire.specs.declared.opcode.Op.{Op}
use Rattle.wsn_wire.specs.declared.length_encoding.Form.TheVariants.{Shortest}
use Rattle.wsn_wire.specs.Frame.{Frame, FormFits}
use Rattle.wsn_rules.specs.declared.step.Step.{Step, TheVariants.{Piece, Last, Control}}
use Rattle.wsn_rules.specs.Meaning.{MeantEvent}
use Rattle.wsn_rules.specs.Recut.{next_message, step_frame}
use Rattle.wsn_plan.specs.declared.walking.Walk.{Walk}

-- the frame of a control
abbrev pub control_frame : Option (List ℕ) → Op × List ℕ → Frame
control_frame key control = record { fin = true; op = control.0; key = key; form = Shortest; payload = control.1 }

-- the frame of a step at this state of the walk, where these events are left
abbrev pub frame_here : Walk → List MeantEvent → Step → Frame
frame_here walk left step = step_frame walk.pieces walk.held left step

-- The step's form can encode its frame's length.
abbrev pub EncodesItsLength : Walk → List MeantEvent → Step → Type 0
EncodesItsLength walk left (Piece len key form) = FormFits form len
EncodesItsLength walk left (Last key form) = FormFits form (length (next_message left).1 - walk.held)
EncodesItsLength walk left (Control key) = ⊤
