use Rattle.std.proofs.Common.{rules}
use Rattle.wsn_show.proofs.payload_bytes.PayloadBytes.held.Goals as goal

pub returns : goal.returns
returns c = search rules
