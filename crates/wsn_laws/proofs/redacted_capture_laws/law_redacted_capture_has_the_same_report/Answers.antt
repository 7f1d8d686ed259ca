use Rattle.wsn_laws.proofs.SameReports.{same_report}
use Rattle.wsn_laws.proofs.SameLines.{same_ended_by}
use Rattle.wsn_laws.proofs.redacted_capture_laws.law_redacted_capture_has_the_same_report.Goals as goal

pub returns-clause-report : goal.returns-clause-report
returns-clause-report c = λ limits lines redacted report is. same_report limits lines redacted is report

pub returns-clause-ended_by : goal.returns-clause-ended_by
returns-clause-ended_by c = λ limits lines redacted entries others report ended_by is given also. same_ended_by limits lines redacted is report entries others ended_by given also
