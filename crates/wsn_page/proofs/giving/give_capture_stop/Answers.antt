use Rattle.std.proofs.Common.{rules}
use Rattle.wsn_page.proofs.giving.give_capture_stop.Goals as goal

pub returns-in-Line : goal.returns-in-Line
returns-in-Line c = search rules
