use Rattle.std.proofs.Common.{length, take, ◌-◌, ◌≡◌, ◌≤◌}
use Rattle.std.specs.Io.KnownBytes.{Appends}
use Rattle.wsn_io.proofs.output.Output.put.Given as goal

-- The bytes taken so far are a prefix, and no write has failed meanwhile.
abbrev pub invariant-loop-taken : goal.invariant-loop-taken
invariant-loop-taken g l = record {
  within : l.taken ≤ length l.bytes;
  out : Appends l.fn.self.written (g.W.Write.contents l.self-inside.writer) (take l.taken l.bytes);
  same : l.self-inside.failed ≡ l.fn.self.failed;
}

abbrev pub decreases-loop-taken : goal.decreases-loop-taken
decreases-loop-taken g l = length l.bytes - l.taken
