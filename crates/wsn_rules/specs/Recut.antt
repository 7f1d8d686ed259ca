-- Recuts of events by plans, the plan of frames, and the plan of the normal form. RFC 6455 sections 5.2 to 5.4.
use Rattle.std.specs.Prelude.{ℕ, zero, suc, true, false, List, [], ◌∷◌, ◌++◌, length, take, drop, map, if◌then◌else◌}
use Rattle.wsn_wire.specs.declared.endpoint.Role.{Role}
use Rattle.wsn_wire.specs.declared.opcode.Op.{Op}
use Rattle.wsn_wire.specs.declared.opcode.Op.TheVariants as op
use Rattle.wsn_wire.specs.declared.opcode.Kind.{Kind}
use Rattle.wsn_wire.specs.declared.opcode.Kind.TheVariants as kind
use Rattle.wsn_wire.specs.declared.length_encoding.Form.TheVariants.{Shortest}
use Rattle.wsn_wire.specs.Frame.{Frame, is_control, stream}
use Rattle.wsn_rules.specs.declared.step.Step.{Step, TheVariants.{Piece, Last, Control}}
use Rattle.wsn_rules.specs.Meaning.{MeantEvent}
use Rattle.wsn_rules.specs.Meaning as meant
use Rattle.wsn_rules.specs.NormalForm.{op_of, normal_key}
use Rattle.wsn_rules.specs.Plan.{pending, total, events_left}

-- The first message; an empty one if all events are controls.
abbrev pub next_message : List MeantEvent → Kind × List ℕ
next_message [] = (kind.Binary, [])
next_message (meant.Message kind text ∷ later) = (kind, text)
next_message (meant.Control o body ∷ later) = next_message later

-- The first event as a control; an empty Ping if it isn't one.
abbrev pub next_control : List MeantEvent → Op × List ℕ
next_control (meant.Control o body ∷ later) = (o, body)
next_control events = (op.Ping, [])

-- [5.4] The first frame of a message has the opcode of its kind, and the others have Continue.
abbrev pub op_after : ℕ → Kind → Op
op_after zero kind = op_of kind
op_after (suc count) kind = op.Continue

-- The frame of a step after `count` Pieces of the next message, which contain `held` of its bytes, with the events
-- `left`. A Piece contains as many bytes as it says, a Last the rest of the message; only a Piece isn't final.
abbrev pub step_frame : ℕ → ℕ → List MeantEvent → Step → Frame
step_frame count held left (Piece len key form) =
    let message = next_message left in
    let part = take len (drop held message.1) in
    record { fin = false; op = op_after count message.0; key = key; form = form; payload = part }
step_frame count held left (Last key form) =
    let message = next_message left in
    record { fin = true; op = op_after count message.0; key = key; form = form; payload = drop held message.1 }
step_frame count held left (Control key) =
    let control = next_control left in
    record { fin = true; op = control.0; key = key; form = Shortest; payload = control.1 }

-- The frame of a step after the steps `before`.
abbrev pub frame_at : List MeantEvent → List Step → Step → Frame
frame_at events before step =
    step_frame (length (pending before)) (total (pending before)) (events_left events before) step

-- One frame for each step, in order, after the steps `before`.
abbrev pub frames_after : List MeantEvent → List Step → List Step → List Frame
frames_after events before [] = []
frames_after events before (step ∷ plan) =
    frame_at events before step ∷ frames_after events (before ++ step ∷ []) plan

-- The recut of events by a plan that fits them.
abbrev pub recut : List Step → List MeantEvent → List Frame
recut plan events = frames_after events [] plan

-- The bytes of a recut.
abbrev pub recut_bytes : List Step → List MeantEvent → List ℕ
recut_bytes plan events = stream (recut plan events)

-- ---- the plan of frames

-- The step of a frame.
abbrev pub step_of : Frame → Step
step_of f =
    if is_control f.op then Control f.key
    else (if f.fin then Last f.key f.form else Piece (length f.payload) f.key f.form)

-- The plan of frames: one step for each.
abbrev pub plan_of : List Frame → List Step
plan_of = map step_of

-- ---- the plan of the normal form: one step for each event

-- The step of an event in the normal form.
abbrev pub normal_step : Role → MeantEvent → Step
normal_step role (meant.Message kind text) = Last (normal_key role) Shortest
normal_step role (meant.Control o body) = Control (normal_key role)

-- The plan of the normal form.
abbrev pub normal_plan : Role → List MeantEvent → List Step
normal_plan role events = map (normal_step role) events
