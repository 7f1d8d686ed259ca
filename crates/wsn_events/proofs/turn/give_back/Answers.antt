use Rattle.std.proofs.Common.{rules}
use Rattle.wsn_events.proofs.turn.give_back.Goals as goal

pub returns-in-Own-Event : goal.returns-in-Own-Event
returns-in-Own-Event g c = search rules
