use Rattle.std.proofs.Common.{rules}
use Rattle.wsn_redact.proofs.redacted_payload.Redactor.replace.Goals as goal

pub returns-in-Ping-clause-replaces : goal.returns-in-Ping-clause-replaces
returns-in-Ping-clause-replaces c = search rules
