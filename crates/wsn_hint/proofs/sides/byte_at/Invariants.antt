use Rattle.std.proofs.Common.{◌≡◌, ◌+◌, ℕ, List, Some, length}
use Rattle.std.specs.Io.KnownBytes.{Consumes}
use Rattle.wsn_capture.specs.SideTexts.{sent_in}
use Rattle.wsn_hint.proofs.sides.byte_at.Given as goal

-- These bytes came, and the given number of bytes is left before the offset.
abbrev pub invariant-loop-count : goal.invariant-loop-count
invariant-loop-count l = (came : List ℕ) × Consumes (Some (sent_in l.fn.role l.fn.first)) l.side.remaining came
    × (length came + l.before ≡ l.fn.offset) × (length l.chunk ≡ 512)

abbrev pub decreases-loop-count : goal.decreases-loop-count
decreases-loop-count l = l.before
