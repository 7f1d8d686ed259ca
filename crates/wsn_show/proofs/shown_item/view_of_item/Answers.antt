use Rattle.std.proofs.Common.{rules}
use Rattle.wsn_show.proofs.shown_item.view_of_item.Goals as goal

pub returns-in-Event : goal.returns-in-Event
returns-in-Event c = search rules

pub returns-in-Refused : goal.returns-in-Refused
returns-in-Refused c = search rules
