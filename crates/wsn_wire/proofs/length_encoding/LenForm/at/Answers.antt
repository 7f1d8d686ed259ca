use Rattle.std.proofs.Common.{arith}
use Rattle.std.proofs.lemmas.Grind.{common_steps}
use Rattle.wsn_wire.proofs.length_encoding.LenForm.at.Goals as goal

pub returns-in-126 : goal.returns-in-126
returns-in-126 c = grind (arith, common_steps)
