use Rattle.std.proofs.Common.{rules}
use Rattle.wsn_redact.proofs.redacted_payload.Redactor.begin.Goals as goal

pub returns-in-Continue : goal.returns-in-Continue
returns-in-Continue c = search rules

pub returns-in-Text : goal.returns-in-Text
returns-in-Text c = search rules
