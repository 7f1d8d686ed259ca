-- The payload of a text message is text.
use Rattle.std.proofs.Common.{◌≡◌, List, refl}
use Rattle.wsn_wire.specs.declared.opcode.Op.{Op}
use Rattle.wsn_wire.specs.declared.opcode.Op.TheVariants.{Continue, Text, Binary, Close, Ping, Pong}
use Rattle.wsn_wire.specs.Frame.{Frame}
use Rattle.wsn_text.specs.Utf8.{BeginsText}
use Rattle.wsn_rules.specs.Group.{first_op, kind_at, kind_of, payload_of}
use Rattle.wsn_rules.specs.Meaning.{Message}
use Rattle.wsn_print.specs.ShownParts.{HasTextPayload}
use Rattle.wsn_show.specs.StreamParts.{BeginsIfText}

pub text_payload : (group : List Frame) → BeginsIfText group → HasTextPayload (Message (kind_of group) (payload_of group))
text_payload group begins = by (first_op group) begins
  where
    by : (op : Op) → (op ≡ Text → BeginsText (payload_of group)) → HasTextPayload (Message (kind_at op) (payload_of group))
    by Text begins = begins refl
    by Continue begins = tt
    by Binary begins = tt
    by Close begins = tt
    by Ping begins = tt
    by Pong begins = tt
