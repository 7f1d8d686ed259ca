use Rattle.std.proofs.Common.{rules}
use Rattle.wsn_print.proofs.kept_bytes.KeptBytes.as_slice.Goals as goal

pub returns-clause-value : goal.returns-clause-value
returns-clause-value g c = search rules
