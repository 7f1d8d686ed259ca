use Rattle.std.proofs.Common.{rules}
use Rattle.wsn_scan.proofs.scan.Scan.count_tail.Goals as goal

pub overflow_sub-self : goal.overflow_sub-self
overflow_sub-self c = search rules

pub returns-clause-whole : goal.returns-clause-whole
returns-clause-whole c = search rules

pub returns-clause-after : goal.returns-clause-after
returns-clause-after c = search rules
