use Rattle.std.proofs.Common.{rules}
use Rattle.wsn_print.proofs.named_reports.push_state.Goals as goal

pub returns-in-Cut-clause-text : goal.returns-in-Cut-clause-text
returns-in-Cut-clause-text c = search rules
