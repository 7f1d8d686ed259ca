use Rattle.wsn_wire.proofs.MaskLemmas.{masked-zero}
use Rattle.wsn_wire.proofs.laws.masking_by_zeros_is_nothing.Goals as goal

pub returns : goal.returns
returns c = masked-zero
