use Rattle.std.proofs.Common.{rules}
use Rattle.wsn_events.proofs.comparing.round_of_own.Goals as goal

pub returns-in-Done-Done : goal.returns-in-Done-Done
returns-in-Done-Done g c = search rules

pub returns-in-Event-Event : goal.returns-in-Event-Event
returns-in-Event-Event g c = search rules

pub returns-in_default : goal.returns-in_default
returns-in_default g c = search rules

pub returns-in_default-2 : goal.returns-in_default-2
returns-in_default-2 g c = search rules

pub returns-in_default-3 : goal.returns-in_default-3
returns-in_default-3 g c = search rules
