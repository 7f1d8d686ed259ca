use Rattle.std.proofs.Common.{rules}
use Rattle.wsn_io.proofs.first_bytes.FirstBytes.kept.Goals as goal

pub returns : goal.returns
returns g c = search rules
