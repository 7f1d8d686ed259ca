use Rattle.std.proofs.Common.{◌≡◌, ◌≤◌, ◌%◌, ◌-◌, length}
use Rattle.wsn_wire.proofs.MaskLemmas.{masked_front}
use Rattle.wsn_wire.proofs.mask_bytes.mask.Given as goal

-- The bytes before `at` are masked, the others are unchanged.
abbrev pub invariant-loop-at : goal.invariant-loop-at
invariant-loop-at l = record {
  within : l.at ≤ length l.bytes;
  round : l.at % 4 ≡ 0;
  front : l.bytes ≡ masked_front l.fn.key l.start l.initial.bytes l.at;
}

abbrev pub decreases-loop-at : goal.decreases-loop-at
decreases-loop-at l = length l.bytes - l.at
