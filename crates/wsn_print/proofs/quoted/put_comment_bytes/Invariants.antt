use Rattle.std.proofs.Common.{take}
use Rattle.std.specs.Prelude.{flat_map}
use Rattle.wsn_io.specs.Transfer.{IsWritten}
use Rattle.wsn_print.specs.EscapedText.{comment_byte}
use Rattle.wsn_print.proofs.quoted.put_comment_bytes.Given as goal

-- The bytes so far are written.
abbrev pub invariant-loop-b : goal.invariant-loop-b
invariant-loop-b g l = IsWritten l.fn.to l.to (flat_map comment_byte (take l.b-index l.bytes))
