-- The normal form: one final frame for each event, with the shortest encoding of its length.
use Rattle.std.specs.Prelude.{ℕ, true, List, [], ◌∷◌, map, Option, None, Some}
use Rattle.wsn_wire.specs.declared.endpoint.Role.{Role, TheVariants.{Client, Server}}
use Rattle.wsn_wire.specs.declared.opcode.Op.{Op}
use Rattle.wsn_wire.specs.declared.opcode.Op.TheVariants as op
use Rattle.wsn_wire.specs.declared.opcode.Kind.{Kind, TheVariants.{Text, Binary}}
use Rattle.wsn_wire.specs.declared.length_encoding.Form.TheVariants.{Shortest}
use Rattle.wsn_wire.specs.Frame.{Frame, stream}
use Rattle.wsn_rules.specs.Meaning.{MeantEvent, Message, Control}

-- The key of a normal form: zeros for a client, none for a server. A normal form is for comparing streams: RFC 6455
-- section 5.3 requires unpredictable keys on a live connection.
abbrev pub normal_key : Role → Option (List ℕ)
normal_key Client = Some (0 ∷ 0 ∷ 0 ∷ 0 ∷ [])
normal_key Server = None

-- The opcode with which a message of a kind begins.
abbrev pub op_of : Kind → Op
op_of Text = op.Text
op_of Binary = op.Binary

-- One final frame with the kind and content of an event.
abbrev pub normal_frame : Role → MeantEvent → Frame
normal_frame role (Message kind text) =
    record { fin = true; op = op_of kind; key = normal_key role; form = Shortest; payload = text }
normal_frame role (Control o body) =
    record { fin = true; op = o; key = normal_key role; form = Shortest; payload = body }

-- The normal form of events: the bytes of their normal frames.
abbrev pub normal_form : Role → List MeantEvent → List ℕ
normal_form role events = stream (map (normal_frame role) events)
