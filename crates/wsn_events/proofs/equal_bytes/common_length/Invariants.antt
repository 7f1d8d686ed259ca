use Rattle.std.proofs.Common.{◌≡◌, ◌+◌, ◌-◌, ◌≤◌, drop}
use Rattle.wsn_print.specs.DifferingPayloads.{common_length}
use Rattle.wsn_events.proofs.equal_bytes.common_length.Given as goal

-- The bytes before `at` are the same, and are counted.
abbrev pub invariant-loop-at : goal.invariant-loop-at
invariant-loop-at l = (l.at ≤ l.shorter) × (common_length l.bytes l.others ≡ l.at + common_length (drop l.at l.bytes) (drop l.at l.others))

abbrev pub decreases-loop-at : goal.decreases-loop-at
decreases-loop-at l = l.shorter - l.at
