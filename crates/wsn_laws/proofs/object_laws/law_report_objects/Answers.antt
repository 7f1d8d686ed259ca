use Rattle.wsn_laws.proofs.Reports.{one_report}
use Rattle.wsn_laws.proofs.object_laws.law_report_objects.Goals as goal

pub returns : goal.returns
returns c = one_report
