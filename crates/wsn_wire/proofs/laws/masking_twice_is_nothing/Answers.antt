use Rattle.wsn_wire.proofs.MaskLemmas.{masked-masked}
use Rattle.wsn_wire.proofs.laws.masking_twice_is_nothing.Goals as goal

pub returns : goal.returns
returns c = masked-masked
