use Rattle.std.proofs.Common.{arith}
use Rattle.wsn_redact.specs.Dues.{due_of}
use Rattle.wsn_redact.proofs.StoodTexts.{stood_front-set, due_front}
use Rattle.wsn_redact.proofs.stand_ins.Due.replace_each.Goals as goal

pub loop-i-preserved : goal.loop-i-preserved
loop-i-preserved c = record {
  written = rw (c.take.ensures.written, c.loop-i.invariant.due, c.loop-i.invariant.written) (stood_front-set (due_of c.args.self.now) c.args.text.now c.loop-i.i (omega arith));
  due = rw (c.take.ensures.due, c.loop-i.invariant.due, c.loop-i.invariant.written) (due_front (due_of c.args.self.now) c.args.text.now c.loop-i.i (omega arith));
}
