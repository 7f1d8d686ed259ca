use Rattle.std.proofs.Common.{rules}
use Rattle.wsn_show.proofs.last_bytes.LastBytes.clear.Goals as goal

pub returns : goal.returns
returns c = search rules
