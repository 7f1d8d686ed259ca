use Rattle.std.proofs.Common.{rules}
use Rattle.wsn_shown_text.proofs.fronts.untimed.Goals as goal

pub returns-in-Client-clause-text : goal.returns-in-Client-clause-text
returns-in-Client-clause-text c = search rules
