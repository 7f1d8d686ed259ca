use Rattle.std.proofs.Common.{◌-◌, refl, arith, rules}
use Rattle.wsn_capture.proofs.OffendingLines.{index_there, count_kept}
use Rattle.wsn_capture.proofs.refused_line.RefusedLine.of.Goals as goal

pub returns : goal.returns
returns c = record {
  starts = refl;
  after_start = omega (arith, c.if-offset-start.false);
  offending = index_there (c.args.offset - c.args.start) c.args.bytes.now (omega (arith, c.if-offset-start.false, c.if-offset-start-2.false));
  counted = count_kept c.args.bytes.now c.min.result c.min.ensures;
  firsts = c.first_of.ensures;
}

pub returns-then-offset-start : goal.returns-then-offset-start
returns-then-offset-start c = search rules
