use Rattle.wsn_laws.proofs.CapturesTwice.{nothing_twice, capture_twice}
use Rattle.wsn_laws.proofs.redacted_capture_laws.law_redacted_capture_twice_is_once.Goals as goal

pub returns-clause-comment : goal.returns-clause-comment
returns-clause-comment c = nothing_twice

pub returns-clause-capture : goal.returns-clause-capture
returns-clause-capture c = capture_twice
