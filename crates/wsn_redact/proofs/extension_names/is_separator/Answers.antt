use Rattle.std.proofs.Common.{rules}
use Rattle.wsn_redact.proofs.extension_names.is_separator.Goals as goal

pub returns-else-byte-eq59 : goal.returns-else-byte-eq59
returns-else-byte-eq59 c = search rules
