use Rattle.std.proofs.Common.{◌≡◌, ◌+◌, ℕ, List, length}
use Rattle.std.specs.List.{AllByRecursion}
use Rattle.std.specs.Io.KnownBytes.{Consumes}
use Rattle.wsn_hint.specs.Hints.{IsTextByte}
use Rattle.wsn_hint.proofs.sent_text.read_text.Given as goal

-- These bytes came, all of a text, and the given number of bytes is left.
abbrev pub invariant-loop-left : goal.invariant-loop-left
invariant-loop-left g l = (text : List ℕ) × Consumes l.fn.input.remaining l.input.remaining text
    × AllByRecursion IsTextByte text × (length text + l.left ≡ l.fn.most)

abbrev pub decreases-loop-left : goal.decreases-loop-left
decreases-loop-left g l = l.left
