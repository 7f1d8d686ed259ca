-- What an event of the code means; a Close's body is its big-endian code and its reason. RFC 6455 section 5.5.1.
use Rattle.std.specs.Prelude.{ℕ, Option, None, Some, List, [], ◌++◌}
use Rattle.std.specs.Int.{to_be_bytes, w16}
use Rattle.arrayvec.specs.ArrayVec.{ArrayVec}
use Rattle.wsn_wire.specs.declared.opcode.Op.TheVariants as op
use Rattle.wsn_events.specs.declared.event.Event.{Event}
use Rattle.wsn_events.specs.declared.event.Event.TheVariants as events
use Rattle.wsn_rules.specs.Meaning.{MeantEvent, Message, Control}

-- a Close's body: empty, or a code and a reason
abbrev pub close_body : Option (ℕ × ArrayVec ℕ) → List ℕ
close_body None = []
close_body (Some (code, reason)) = to_be_bytes w16 code ++ reason.items

-- the event that an event of the code means
abbrev pub meant : {A : Type 0} → Event A → MeantEvent
meant (events.Message kind text) = Message kind text.items
meant (events.Ping body) = Control op.Ping body.items
meant (events.Pong body) = Control op.Pong body.items
meant (events.Close held) = Control op.Close (close_body held)
