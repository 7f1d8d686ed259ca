use Rattle.wsn_wire.proofs.MaskLemmas.{masked-bytes}
use Rattle.wsn_wire.proofs.laws.masking_gives_bytes.Goals as goal

pub returns : goal.returns
returns c = masked-bytes
