use Rattle.std.proofs.Common.{rules}
use Rattle.wsn_show.proofs.ended_by.text_of.Goals as goal

pub returns-in-Json-Some : goal.returns-in-Json-Some
returns-in-Json-Some c = search rules
