use Rattle.wsn_laws.proofs.DifferenceReader.{one_difference}
use Rattle.wsn_laws.proofs.object_laws.law_difference_objects.Goals as goal

pub returns : goal.returns
returns c = one_difference
