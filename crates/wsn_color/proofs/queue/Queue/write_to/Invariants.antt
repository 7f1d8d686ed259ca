use Rattle.std.proofs.Common.{◌-◌, length, drop}
use Rattle.std.specs.Io.KnownBytes.{Keeps, append_known}
use Rattle.wsn_color.proofs.queue.Queue.write_to.Given as goal

-- The text stays the same.
abbrev pub invariant-loop-self : goal.invariant-loop-self
invariant-loop-self g l = Keeps
    (append_known (g.W.Write.contents l.fn.writer) (drop l.fn.self.sent l.fn.self.bytes.items))
    (append_known (g.W.Write.contents l.writer) (drop l.self.sent l.self.bytes.items))

abbrev pub decreases-loop-self : goal.decreases-loop-self
decreases-loop-self g l = length l.self.bytes.items - l.self.sent
