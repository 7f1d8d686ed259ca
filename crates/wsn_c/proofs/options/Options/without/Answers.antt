use Rattle.std.proofs.Common.{rules}
use Rattle.wsn_c.proofs.options.Options.without.Goals as goal

pub returns-clause-in_range : goal.returns-clause-in_range
returns-clause-in_range c = search rules
