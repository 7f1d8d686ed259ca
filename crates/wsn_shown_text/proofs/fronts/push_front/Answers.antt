use Rattle.std.proofs.Common.{rules}
use Rattle.wsn_shown_text.proofs.fronts.push_front.Goals as goal

pub returns-in-None-clause-text : goal.returns-in-None-clause-text
returns-in-None-clause-text c = search rules
