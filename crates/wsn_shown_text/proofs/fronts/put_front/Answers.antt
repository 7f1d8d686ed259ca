use Rattle.std.proofs.Common.{rules}
use Rattle.wsn_shown_text.proofs.fronts.put_front.Goals as goal

pub returns-in-Object : goal.returns-in-Object
returns-in-Object g c = search rules
