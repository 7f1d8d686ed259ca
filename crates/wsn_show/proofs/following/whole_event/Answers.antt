use Rattle.std.proofs.Common.{rules}
use Rattle.wsn_show.proofs.following.whole_event.Goals as goal

pub returns-clause-bytes : goal.returns-clause-bytes
returns-clause-bytes c = search rules

pub returns-clause-held : goal.returns-clause-held
returns-clause-held c = search rules
