use Rattle.std.proofs.Common.{rules}
use Rattle.wsn_events.proofs.reassembly.Reassembly.offset.Goals as goal

pub returns-in_default : goal.returns-in_default
returns-in_default g c = search rules
