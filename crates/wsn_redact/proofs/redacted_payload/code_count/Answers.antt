use Rattle.std.proofs.Common.{rules}
use Rattle.wsn_redact.proofs.redacted_payload.code_count.Goals as goal

pub returns-then-left-len-clause-count : goal.returns-then-left-len-clause-count
returns-then-left-len-clause-count c = search rules
