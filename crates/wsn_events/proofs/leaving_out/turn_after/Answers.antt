use Rattle.std.proofs.Common.{rules}
use Rattle.wsn_events.proofs.leaving_out.turn_after.Goals as goal

pub returns-in-Some-clause-lent : goal.returns-in-Some-clause-lent
returns-in-Some-clause-lent g c = search rules
