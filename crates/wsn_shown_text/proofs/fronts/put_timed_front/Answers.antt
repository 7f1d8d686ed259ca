use Rattle.std.proofs.Common.{rules}
use Rattle.wsn_shown_text.proofs.fronts.put_timed_front.Goals as goal

pub returns-in-Some : goal.returns-in-Some
returns-in-Some g c = search rules
