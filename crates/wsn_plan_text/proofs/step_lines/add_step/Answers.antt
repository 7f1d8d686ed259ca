use Rattle.std.proofs.Common.{rules}
use Rattle.wsn_plan_text.proofs.step_lines.add_step.Goals as goal

pub returns : goal.returns
returns c = search rules
