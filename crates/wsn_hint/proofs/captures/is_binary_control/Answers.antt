use Rattle.std.proofs.Common.{arith}
use Rattle.std.proofs.lemmas.Grind.{common_steps}
use Rattle.wsn_hint.proofs.captures.is_binary_control.Goals as goal

pub returns-in_default : goal.returns-in_default
returns-in_default c = grind (arith, common_steps)

pub returns-in_default-2 : goal.returns-in_default-2
returns-in_default-2 c = grind (arith, common_steps)

pub returns-in_default-3 : goal.returns-in_default-3
returns-in_default-3 c = grind (arith, common_steps)

pub returns-in-0-to-6 : goal.returns-in-0-to-6
returns-in-0-to-6 c = grind (arith, common_steps)

pub returns-in-0-to-6-2 : goal.returns-in-0-to-6-2
returns-in-0-to-6-2 c = grind (arith, common_steps)

pub returns-in-0-to-6-3 : goal.returns-in-0-to-6-3
returns-in-0-to-6-3 c = grind (arith, common_steps)

pub returns-in-0-to-6-4 : goal.returns-in-0-to-6-4
returns-in-0-to-6-4 c = grind (arith, common_steps)
