use Rattle.std.proofs.Common.{rules}
use Rattle.wsn_shown_text.proofs.people_columns.last_text.Goals as goal

pub returns-then-fin-clause-text : goal.returns-then-fin-clause-text
returns-then-fin-clause-text c = search rules
