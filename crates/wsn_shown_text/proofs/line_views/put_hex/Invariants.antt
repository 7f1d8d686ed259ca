use Rattle.std.proofs.Common.{◌-◌, ◌≤◌, length, take}
use Rattle.hex.specs.Hex.{encode_lower}
use Rattle.wsn_io.specs.Transfer.{IsWritten}
use Rattle.wsn_shown_text.proofs.line_views.put_hex.Given as goal

-- The digits of the bytes so far are written.
abbrev pub invariant-loop-done : goal.invariant-loop-done
invariant-loop-done g l = (l.done ≤ length l.bytes) × IsWritten l.fn.to l.to (encode_lower (take l.done l.bytes))

abbrev pub decreases-loop-done : goal.decreases-loop-done
decreases-loop-done g l = length l.bytes - l.done
