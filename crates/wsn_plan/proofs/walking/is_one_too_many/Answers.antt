use Rattle.std.proofs.Common.{rules}
use Rattle.wsn_plan.proofs.walking.is_one_too_many.Goals as goal

pub returns-in-Some : goal.returns-in-Some
returns-in-Some c = search rules

pub overflow_add-result : goal.overflow_add-result
overflow_add-result c = search rules

pub returns-in-None : goal.returns-in-None
returns-in-None c = search rules
