use Rattle.wsn_laws.proofs.Comparisons.{one_comparison}
use Rattle.wsn_laws.proofs.object_laws.law_comparison_objects.Goals as goal

pub returns : goal.returns
returns c = one_comparison
