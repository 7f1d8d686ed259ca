use Rattle.std.proofs.Common.{rules}
use Rattle.wsn_redact.proofs.extension_names.is_of_token.Goals as goal

pub returns-in_default-3 : goal.returns-in_default-3
returns-in_default-3 c = search rules
