use Rattle.std.proofs.Common.{rules}
use Rattle.wsn_rules.proofs.limits.Limits.lengths.Goals as goal

pub returns : goal.returns
returns c = search rules
