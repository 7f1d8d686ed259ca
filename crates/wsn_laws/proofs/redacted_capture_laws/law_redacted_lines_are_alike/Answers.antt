use Rattle.wsn_laws.proofs.SameLines.{capture_alike}
use Rattle.wsn_laws.proofs.CapturesTwice.{redacted_accepted}
use Rattle.wsn_laws.proofs.redacted_capture_laws.law_redacted_lines_are_alike.Goals as goal

pub returns-clause-accepted : goal.returns-clause-accepted
returns-clause-accepted c = λ limits lines redacted is. (is.others, redacted_accepted limits lines redacted is)

pub returns-clause-alike : goal.returns-clause-alike
returns-clause-alike c = capture_alike
