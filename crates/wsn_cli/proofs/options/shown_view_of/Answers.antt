use Rattle.std.proofs.Common.{rules}
use Rattle.wsn_cli.proofs.options.shown_view_of.Goals as goal

pub returns-in_ok-view_of-in_default : goal.returns-in_ok-view_of-in_default
returns-in_ok-view_of-in_default c = search rules

pub returns-in-Some-all : goal.returns-in-Some-all
returns-in-Some-all c = search rules
