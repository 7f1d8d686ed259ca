use Rattle.wsn_laws.proofs.AlikeRedactions.{texts_alike, alike_is_one}
use Rattle.wsn_laws.proofs.alike_laws.law_alike_streams_have_one_redaction.Goals as goal

pub returns-clause-texts : goal.returns-clause-texts
returns-clause-texts c = texts_alike

pub returns-clause-streams : goal.returns-clause-streams
returns-clause-streams c = alike_is_one
