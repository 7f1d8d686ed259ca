use Rattle.std.proofs.Common.{arith}
use Rattle.std.proofs.lemmas.Grind.{common_steps}
use Rattle.wsn_events.proofs.equal_bytes.are_equal_each.Goals as goal

pub returns : goal.returns
returns c = grind (arith, common_steps)
