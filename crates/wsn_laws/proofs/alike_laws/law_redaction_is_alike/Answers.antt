use Rattle.wsn_redact.proofs.TwiceIsOnce.{redacted_again}
use Rattle.wsn_laws.proofs.RedactionsAlike.{texts_back, redaction_is_alike}
use Rattle.wsn_laws.proofs.alike_laws.law_redaction_is_alike.Goals as goal

pub returns-clause-texts : goal.returns-clause-texts
returns-clause-texts c = λ text redacted r. texts_back text redacted redacted r (redacted_again text redacted r)

pub returns-clause-streams : goal.returns-clause-streams
returns-clause-streams c = redaction_is_alike
