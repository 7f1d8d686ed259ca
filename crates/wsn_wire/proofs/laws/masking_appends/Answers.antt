use Rattle.wsn_wire.proofs.MaskLemmas.{masked-append}
use Rattle.wsn_wire.proofs.laws.masking_appends.Goals as goal

pub returns : goal.returns
returns c = masked-append
