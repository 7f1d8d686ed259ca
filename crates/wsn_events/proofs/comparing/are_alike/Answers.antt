use Rattle.std.proofs.Common.{rules}
use Rattle.wsn_events.proofs.comparing.are_alike.Goals as goal

pub returns-then-eq : goal.returns-then-eq
returns-then-eq g c = search rules
