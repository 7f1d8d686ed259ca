use Rattle.std.proofs.Common.{rules}
use Rattle.wsn_c.proofs.running.give_usage.Goals as goal

pub returns : goal.returns
returns c = search rules
