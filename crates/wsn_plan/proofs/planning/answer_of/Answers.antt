use Rattle.std.proofs.Common.{rules}
use Rattle.wsn_plan.proofs.planning.answer_of.Goals as goal

pub returns-in-Cut : goal.returns-in-Cut
returns-in-Cut g c = search rules

pub returns-in-Accepted : goal.returns-in-Accepted
returns-in-Accepted g c = search rules

pub same-plan : goal.same-plan
same-plan g c = search rules

pub returns-in-Accepted-2 : goal.returns-in-Accepted-2
returns-in-Accepted-2 g c = search rules
