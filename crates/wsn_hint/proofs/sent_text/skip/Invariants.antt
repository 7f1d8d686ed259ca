use Rattle.std.proofs.Common.{◌≡◌, ◌+◌, ℕ, List, length}
use Rattle.std.specs.Io.KnownBytes.{Consumes}
use Rattle.wsn_hint.proofs.sent_text.skip.Given as goal

-- These bytes came, and the given number of bytes is left.
abbrev pub invariant-loop-left : goal.invariant-loop-left
invariant-loop-left g l = (passed : List ℕ) × Consumes l.fn.input.remaining l.input.remaining passed
    × (length passed + l.left ≡ l.fn.count)

abbrev pub decreases-loop-left : goal.decreases-loop-left
decreases-loop-left g l = l.left
