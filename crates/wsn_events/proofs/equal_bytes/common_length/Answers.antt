use Rattle.std.proofs.Common.{rules, arith}
use Rattle.wsn_events.proofs.CommonBytes.{one_more, differs_at, ends_at}
use Rattle.wsn_events.proofs.equal_bytes.common_length.Goals as goal

pub returns : goal.returns
returns c = record {
  is = ends_at c.args.bytes.now c.args.others.now c.loop-at.at (omega (arith, c.loop-at.invariant.0, c.loop-at-test.false, c.min-shorter.ensures)) c.loop-at.invariant.1;
  within = search rules;
}

pub loop-at-init : goal.loop-at-init
loop-at-init c = search rules

pub bounds-bytes-at : goal.bounds-bytes-at
bounds-bytes-at c = search rules

pub bounds-others-at : goal.bounds-others-at
bounds-others-at c = search rules

pub returns-then-bytes-at : goal.returns-then-bytes-at
returns-then-bytes-at c = record {
  is = let within = c.min-shorter.ensures in
      let test = c.loop-at-test.true in
      differs_at c.args.bytes.now c.args.others.now c.loop-at.at (omega (arith, within, test)) (omega (arith, within, test)) c.if-bytes-at.true c.loop-at.invariant.1;
  within = search rules;
}

pub overflow_add-at : goal.overflow_add-at
overflow_add-at c = search rules

pub loop-at-smaller : goal.loop-at-smaller
loop-at-smaller c = search rules

pub loop-at-preserved : goal.loop-at-preserved
loop-at-preserved c =
    let within = c.min-shorter.ensures in
    let test = c.loop-at-test.true in (
      omega (arith, test),
      one_more c.args.bytes.now c.args.others.now c.loop-at.at (omega (arith, within, test)) (omega (arith, within, test)) c.if-bytes-at.false c.loop-at.invariant.1,
    )
