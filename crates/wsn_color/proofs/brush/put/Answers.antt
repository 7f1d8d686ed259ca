use Rattle.std.proofs.Common.{rules}
use Rattle.wsn_color.proofs.brush.put.Goals as goal

pub returns : goal.returns
returns c = search rules
