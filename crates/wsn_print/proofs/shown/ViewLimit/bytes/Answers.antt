use Rattle.std.proofs.Common.{rules}
use Rattle.wsn_print.proofs.shown.ViewLimit.bytes.Goals as goal

pub returns-clause-is : goal.returns-clause-is
returns-clause-is c = search rules

pub returns-clause-in_range : goal.returns-clause-in_range
returns-clause-in_range c = search rules
