use Rattle.std.proofs.Common.{rules}
use Rattle.wsn_wire.proofs.head_law.head.Goals as goal

pub returns : goal.returns
returns c = search rules
