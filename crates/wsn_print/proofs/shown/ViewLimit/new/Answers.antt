use Rattle.std.proofs.Common.{rules, arith}
use Rattle.wsn_print.proofs.shown.ViewLimit.new.Goals as goal

pub returns-then-bytes-gt-VIEW_MAX-clause-in_range :
    goal.returns-then-bytes-gt-VIEW_MAX-clause-in_range
returns-then-bytes-gt-VIEW_MAX-clause-in_range c = search rules

pub invariant_of-result : goal.invariant_of-result
invariant_of-result c =
    let is = c.from.ensures in
    let few = c.if-bytes-gt-VIEW_MAX.false in
    omega (arith, is, few)

pub returns-clause-in_range : goal.returns-clause-in_range
returns-clause-in_range c = search rules

pub returns-clause-value : goal.returns-clause-value
returns-clause-value c = search rules
