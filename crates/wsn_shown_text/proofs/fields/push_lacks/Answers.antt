use Rattle.std.proofs.Common.{rules}
use Rattle.wsn_shown_text.proofs.fields.push_lacks.Goals as goal

pub returns-in-Object-clause-text : goal.returns-in-Object-clause-text
returns-in-Object-clause-text c = search rules
