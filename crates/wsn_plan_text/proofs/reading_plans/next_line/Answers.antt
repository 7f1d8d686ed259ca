use Rattle.std.proofs.Common.{rules}
use Rattle.wsn_plan_text.proofs.reading_plans.next_line.Goals as goal

pub returns : goal.returns
returns c = search rules
