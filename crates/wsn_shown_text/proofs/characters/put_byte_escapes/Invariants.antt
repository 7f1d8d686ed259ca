use Rattle.std.proofs.Common.{take}
use Rattle.std.specs.Prelude.{flat_map}
use Rattle.wsn_io.specs.Transfer.{IsWritten}
use Rattle.wsn_shown_text.specs.CharacterText.{byte_escape}
use Rattle.wsn_shown_text.proofs.characters.put_byte_escapes.Given as goal

-- The bytes so far are written.
abbrev pub invariant-loop-b : goal.invariant-loop-b
invariant-loop-b g l = IsWritten l.fn.to l.to (flat_map byte_escape (take l.b-index l.bytes))
