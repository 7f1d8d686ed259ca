use Rattle.std.proofs.Common.{rules}
use Rattle.wsn_events.proofs.event.is_message.Goals as goal

pub returns-then-eq : goal.returns-then-eq
returns-then-eq g c = search rules
