use Rattle.std.proofs.Common.{rules}
use Rattle.wsn_show.proofs.ended_by.line_of.Goals as goal

pub returns-in-Server-true : goal.returns-in-Server-true
returns-in-Server-true c = search rules
