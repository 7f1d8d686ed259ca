use Rattle.std.proofs.Common.{rules}
use Rattle.wsn_frame.proofs.heads.Head.info.Goals as goal

pub returns : goal.returns
returns c = search rules
