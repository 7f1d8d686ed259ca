use Rattle.std.proofs.Common.{ℕ, ◌+◌, ◌-◌, ◌<◌, slice_index}
use Rattle.wsn_text.proofs.ascii_blocks.is_ascii.Given as goal

-- The bytes before `at` are ASCII.
abbrev pub invariant-loop-at : goal.invariant-loop-at
invariant-loop-at l = (l.at < l.last + 64) × ((i : ℕ) → i < l.at → slice_index l.bytes i < 128)

abbrev pub decreases-loop-at : goal.decreases-loop-at
decreases-loop-at l = l.last - l.at
