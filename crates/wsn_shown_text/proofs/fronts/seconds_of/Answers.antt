use Rattle.std.proofs.Common.{rules}
use Rattle.wsn_shown_text.proofs.fronts.seconds_of.Goals as goal

pub returns-in-Line : goal.returns-in-Line
returns-in-Line c = search rules
