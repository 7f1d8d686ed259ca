use Rattle.std.proofs.Common.{rules}
use Rattle.wsn_print.proofs.named_reports.put_named_report.Goals as goal

pub returns-in-Json : goal.returns-in-Json
returns-in-Json g c = search rules
