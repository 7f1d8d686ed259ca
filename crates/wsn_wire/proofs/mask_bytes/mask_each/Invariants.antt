use Rattle.std.proofs.Common.{◌≡◌, ◌++◌, take, drop}
use Rattle.wsn_wire.specs.Frame.{masked}
use Rattle.wsn_wire.proofs.mask_bytes.mask_each.Given as goal

-- The bytes before `i` are masked, the others are unchanged.
abbrev pub invariant-loop-i : goal.invariant-loop-i
invariant-loop-i l = l.bytes ≡ masked l.key l.start (take l.i l.initial.bytes) ++ drop l.i l.initial.bytes
