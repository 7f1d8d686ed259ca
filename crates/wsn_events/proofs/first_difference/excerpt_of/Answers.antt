use Rattle.std.proofs.Common.{rules}
use Rattle.wsn_events.proofs.first_difference.excerpt_of.Goals as goal

pub returns-in-Lent : goal.returns-in-Lent
returns-in-Lent g c = search rules
