use Rattle.std.proofs.Common.{◌≡◌, ℕ, List, false}
use Rattle.std.specs.Io.KnownBytes.{Consumes}
use Rattle.wsn_wire.specs.Frame.{Frame}
use Rattle.wsn_scan.specs.Positions.{Position}
use Rattle.wsn_scan.specs.FrameReaders.{HasTaken, parts_ahead}
use Rattle.wsn_hint.proofs.sent_text.head_before.Given as goal

-- The reader has taken these frames of the bytes that came.
abbrev pub invariant-loop-part : goal.invariant-loop-part
invariant-loop-part g l = (came : List ℕ) × (fs : List Frame) × (at : Position)
    × HasTaken l.fn.role l.fn.limits l.reader came fs at
    × Consumes l.fn.side.remaining l.side.remaining came × (l.side.failed ≡ false)

abbrev pub decreases-loop-part : goal.decreases-loop-part
decreases-loop-part g l = parts_ahead l.reader
