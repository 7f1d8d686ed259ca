use Rattle.std.proofs.Common.{rules}
use Rattle.wsn_plan.proofs.kept.to_keep.Goals as goal

pub returns-in_ok-copy_of-in-Message : goal.returns-in_ok-copy_of-in-Message
returns-in_ok-copy_of-in-Message g c = search rules
