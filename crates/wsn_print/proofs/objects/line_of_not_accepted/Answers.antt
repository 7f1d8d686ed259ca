use Rattle.std.proofs.Common.{arith}
use Rattle.std.proofs.lemmas.Grind.{common_steps}
use Rattle.wsn_print.proofs.objects.line_of_not_accepted.Goals as goal

pub returns : goal.returns
returns c = grind (arith, common_steps)
