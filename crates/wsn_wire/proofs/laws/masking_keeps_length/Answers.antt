use Rattle.wsn_wire.proofs.MaskLemmas.{length-masked}
use Rattle.wsn_wire.proofs.laws.masking_keeps_length.Goals as goal

pub returns : goal.returns
returns c = length-masked
