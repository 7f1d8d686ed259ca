use Rattle.std.proofs.Common.{rules}
use Rattle.wsn_hint.proofs.sides.handshake_hint_of.Goals as goal

pub returns : goal.returns
returns c = search rules
