use Rattle.std.proofs.Common.{rules}
use Rattle.wsn_show.proofs.ended_by.object_of.Goals as goal

pub returns-in-Client-true : goal.returns-in-Client-true
returns-in-Client-true c = search rules
