use Rattle.std.proofs.Common.{ℕ, ◌-◌, ◌<◌, List, length, take}
use Rattle.wsn_text.specs.Validated.{Follows, Validates}
use Rattle.wsn_text.proofs.utf8_check.Utf8.take_chunk.Given as goal

-- The bytes before `at` are validated, and more follow.
abbrev pub invariant-loop-at : goal.invariant-loop-at
invariant-loop-at l = (l.at < length l.chunk) × ((more : List ℕ) × Follows l.self more) × Validates l.fn.self l.self (take l.at l.chunk)

abbrev pub decreases-loop-at : goal.decreases-loop-at
decreases-loop-at l = length l.chunk - l.at
