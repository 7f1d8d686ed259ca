use Rattle.std.proofs.Common.{rules}
use Rattle.wsn_plan.proofs.planning.step_of.Goals as goal

pub returns-then-head : goal.returns-then-head
returns-then-head c = search rules

pub returns : goal.returns
returns c = search rules

pub returns-then-is_control : goal.returns-then-is_control
returns-then-is_control c = search rules
