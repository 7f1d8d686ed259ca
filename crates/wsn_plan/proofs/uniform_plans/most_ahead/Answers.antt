use Rattle.std.proofs.Common.{rules}
use Rattle.wsn_plan.proofs.uniform_plans.most_ahead.Goals as goal

pub returns-then-weave : goal.returns-then-weave
returns-then-weave c = search rules

pub returns-else-weave : goal.returns-else-weave
returns-else-weave c = search rules
