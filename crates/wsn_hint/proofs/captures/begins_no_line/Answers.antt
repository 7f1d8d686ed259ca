use Rattle.std.proofs.Common.{arith}
use Rattle.std.proofs.lemmas.Grind.{common_steps}
use Rattle.wsn_hint.proofs.captures.begins_no_line.Goals as goal

pub returns-in_default : goal.returns-in_default
returns-in_default c = grind (arith, common_steps)

pub returns-in-len2-up : goal.returns-in-len2-up
returns-in-len2-up c = grind (arith, common_steps)
