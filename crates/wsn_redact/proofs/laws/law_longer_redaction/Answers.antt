use Rattle.wsn_redact.proofs.LongerRedactions.{longer_continues}
use Rattle.wsn_redact.proofs.laws.law_longer_redaction.Goals as goal

pub returns : goal.returns
returns c = longer_continues
