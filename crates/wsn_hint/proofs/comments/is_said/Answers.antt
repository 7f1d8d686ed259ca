use Rattle.std.proofs.Common.{rules}
use Rattle.wsn_hint.proofs.comments.is_said.Goals as goal

pub loop-rest-preserved : goal.loop-rest-preserved
loop-rest-preserved c = search rules
