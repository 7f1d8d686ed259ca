use Rattle.std.proofs.Common.{arith}
use Rattle.std.proofs.lemmas.Grind.{common_steps}
use Rattle.wsn_events.proofs.reassembly.Reassembly.copy.Goals as goal

pub returns-clause-copied : goal.returns-clause-copied
returns-clause-copied g c = grind (arith, common_steps)
