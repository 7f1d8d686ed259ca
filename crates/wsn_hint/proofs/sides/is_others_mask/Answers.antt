use Rattle.std.proofs.Common.{rules}
use Rattle.wsn_hint.proofs.sides.is_others_mask.Goals as goal

pub returns-in-Client : goal.returns-in-Client
returns-in-Client c = search rules
