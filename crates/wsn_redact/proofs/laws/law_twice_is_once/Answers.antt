use Rattle.wsn_redact.proofs.RedactedTwice.{stood_twice}
use Rattle.wsn_redact.proofs.AcceptedTwice.{accepted_twice}
use Rattle.wsn_redact.proofs.TwiceIsOnce.{redacted_again, redaction_twice}
use Rattle.wsn_redact.proofs.laws.law_twice_is_once.Goals as goal

pub returns : goal.returns
returns c = record {
  text = stood_twice;
  accepted = accepted_twice;
  any_text = redacted_again;
  stream = redaction_twice;
}
