use Rattle.std.proofs.Common.{rules}
use Rattle.wsn_redact.proofs.redacted_payload.Redactor.take.Goals as goal

pub returns : goal.returns
returns c = search rules
