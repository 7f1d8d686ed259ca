use Rattle.std.proofs.Common.{rules}
use Rattle.wsn_events.proofs.reassembly.Reassembly.begin_message.Goals as goal

pub returns-clause-begun : goal.returns-clause-begun
returns-clause-begun g c = search rules
