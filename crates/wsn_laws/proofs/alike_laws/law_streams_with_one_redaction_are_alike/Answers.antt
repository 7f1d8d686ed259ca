use Rattle.wsn_laws.proofs.RedactionsAlike.{texts_back, one_redaction_alike}
use Rattle.wsn_laws.proofs.alike_laws.law_streams_with_one_redaction_are_alike.Goals as goal

pub returns-clause-texts : goal.returns-clause-texts
returns-clause-texts c = texts_back

pub returns-clause-streams : goal.returns-clause-streams
returns-clause-streams c = one_redaction_alike
