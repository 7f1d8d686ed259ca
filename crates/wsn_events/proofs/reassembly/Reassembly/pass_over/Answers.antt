use Rattle.std.proofs.Common.{rules}
use Rattle.wsn_events.proofs.reassembly.Reassembly.pass_over.Goals as goal

pub returns : goal.returns
returns g c = search rules
