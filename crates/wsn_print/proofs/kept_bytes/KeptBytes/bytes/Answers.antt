use Rattle.std.proofs.Common.{rules}
use Rattle.wsn_print.proofs.kept_bytes.KeptBytes.bytes.Goals as goal

pub returns : goal.returns
returns g c = search rules
