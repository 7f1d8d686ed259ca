use Rattle.std.proofs.Common.{arith}
use Rattle.std.proofs.lemmas.Grind.{common_steps}
use Rattle.wsn_hint.proofs.plans.plan_hint_of.Goals as goal

pub returns-in-239-clause-mark : goal.returns-in-239-clause-mark
returns-in-239-clause-mark c = grind (arith, common_steps)
