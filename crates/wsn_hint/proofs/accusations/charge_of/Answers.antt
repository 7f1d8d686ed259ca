use Rattle.std.proofs.Common.{rules}
use Rattle.wsn_hint.proofs.accusations.charge_of.Goals as goal

pub returns-in-1007-clause-some : goal.returns-in-1007-clause-some
returns-in-1007-clause-some c = search rules
