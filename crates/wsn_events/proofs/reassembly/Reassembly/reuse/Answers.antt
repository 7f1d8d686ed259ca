use Rattle.std.proofs.Common.{arith}
use Rattle.std.proofs.lemmas.Grind.{common_steps}
use Rattle.wsn_events.proofs.reassembly.Reassembly.reuse.Goals as goal

pub returns-then-capacity-le-CHUNK-clause-held : goal.returns-then-capacity-le-CHUNK-clause-held
returns-then-capacity-le-CHUNK-clause-held g c = grind (arith, common_steps)
