use Rattle.std.proofs.Common.{arith}
use Rattle.std.proofs.lemmas.Grind.{common_steps}
use Rattle.wsn_hint.proofs.captures.has_blank.Goals as goal

pub returns-in-32-2 : goal.returns-in-32-2
returns-in-32-2 c = grind (arith, common_steps)

pub returns-in-32 : goal.returns-in-32
returns-in-32 c = grind (arith, common_steps)

pub returns-in_default : goal.returns-in_default
returns-in_default c = grind (arith, common_steps)

pub returns-in_default-2 : goal.returns-in_default-2
returns-in_default-2 c = grind (arith, common_steps)
