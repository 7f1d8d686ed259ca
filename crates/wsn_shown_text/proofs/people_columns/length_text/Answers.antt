use Rattle.std.proofs.Common.{rules}
use Rattle.wsn_shown_text.proofs.people_columns.length_text.Goals as goal

pub returns-in-Two-clause-text : goal.returns-in-Two-clause-text
returns-in-Two-clause-text c = search rules
