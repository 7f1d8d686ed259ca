use Rattle.std.proofs.Common.{arith}
use Rattle.std.proofs.lemmas.Grind.{common_steps}
use Rattle.wsn_shown_text.proofs.seen.put_hex_after.Goals as goal

pub returns : goal.returns
returns g c = grind (arith, common_steps)
