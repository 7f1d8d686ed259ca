use Rattle.std.proofs.Common.{arith}
use Rattle.std.proofs.lemmas.Grind.{common_steps}
use Rattle.wsn_print.proofs.kept_bytes.KeptBytes.add.Goals as goal

pub returns : goal.returns
returns g c = grind (arith, common_steps)
