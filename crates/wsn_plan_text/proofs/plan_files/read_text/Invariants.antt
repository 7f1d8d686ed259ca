use Rattle.std.proofs.Common.{◌≡◌, ◌-◌, ◌≤◌, false, length}
use Rattle.wsn_io.specs.Transfer.{IsConsumed}
use Rattle.wsn_plan_text.proofs.plan_files.read_text.Given as goal

-- The text is all that came: at most one byte more than a plan file may have.
abbrev pub invariant-loop-chunk : goal.invariant-loop-chunk
invariant-loop-chunk g l = record {
  consumed : IsConsumed l.fn.file l.file l.text.items;
  few : length l.text.items ≤ 67108865;
  unfailed : l.file.failed ≡ false;
  size : length l.chunk ≡ 4096;
}

abbrev pub decreases-loop-chunk : goal.decreases-loop-chunk
decreases-loop-chunk g l = 67108865 - length l.text.items
