use Rattle.std.proofs.Common.{rules}
use Rattle.wsn_show.proofs.last_payload.shown_in.Goals as goal

pub returns-in-Some : goal.returns-in-Some
returns-in-Some c = search rules

pub returns-in-None : goal.returns-in-None
returns-in-None c = search rules
