use Rattle.wsn_rules.proofs.OneReport.{one_report}
use Rattle.wsn_capture.proofs.laws.law_one_report.Goals as goal

pub returns : goal.returns
returns c = one_report
