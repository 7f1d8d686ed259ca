use Rattle.wsn_redact.proofs.TextsStay.{begins_alike, text_alike}
use Rattle.wsn_redact.proofs.laws.law_text_stays.Goals as goal

pub returns-clause-begins : goal.returns-clause-begins
returns-clause-begins c = begins_alike

pub returns-clause-whole : goal.returns-clause-whole
returns-clause-whole c = text_alike
