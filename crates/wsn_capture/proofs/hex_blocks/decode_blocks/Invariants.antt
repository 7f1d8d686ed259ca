use Rattle.std.proofs.Common.{◌≡◌, ◌+◌, ◌-◌, ◌<◌, length}
use Rattle.wsn_capture.proofs.DigitBlocks.{AreBefore}
use Rattle.wsn_capture.proofs.hex_blocks.decode_blocks.Given as goal

-- The bytes before `at` are decoded.
abbrev pub invariant-loop-at : goal.invariant-loop-at
invariant-loop-at l = (l.at < l.last + 32) × (length l.bytes ≡ l.last + 32) × AreBefore l.digits l.bytes l.at

abbrev pub decreases-loop-at : goal.decreases-loop-at
decreases-loop-at l = l.last - l.at
