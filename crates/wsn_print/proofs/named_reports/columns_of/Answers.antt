use Rattle.std.proofs.Common.{rules}
use Rattle.wsn_print.proofs.named_reports.columns_of.Goals as goal

pub returns-clause-text : goal.returns-clause-text
returns-clause-text c = search rules
