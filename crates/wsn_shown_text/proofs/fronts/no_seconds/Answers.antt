use Rattle.std.proofs.Common.{rules}
use Rattle.wsn_shown_text.proofs.fronts.no_seconds.Goals as goal

pub returns-in-Line-clause-value : goal.returns-in-Line-clause-value
returns-in-Line-clause-value c = search rules
