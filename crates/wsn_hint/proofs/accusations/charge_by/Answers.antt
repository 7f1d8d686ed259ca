use Rattle.std.proofs.Common.{rules}
use Rattle.wsn_hint.proofs.accusations.charge_by.Goals as goal

pub returns-in-Closed-Some-default-clause-some : goal.returns-in-Closed-Some-default-clause-some
returns-in-Closed-Some-default-clause-some c = search rules
