use Rattle.std.proofs.Common.{rules}
use Rattle.wsn_plan.proofs.kept.copy_of.Goals as goal

pub returns : goal.returns
returns g c = search rules
