use Rattle.std.proofs.Common.{rules}
use Rattle.wsn_events.proofs.reassembly.Reassembly.release.Goals as goal

pub returns : goal.returns
returns g c = search rules
