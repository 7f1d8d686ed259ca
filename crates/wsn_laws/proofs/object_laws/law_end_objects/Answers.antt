use Rattle.wsn_laws.proofs.EndMarks.{one_end}
use Rattle.wsn_laws.proofs.object_laws.law_end_objects.Goals as goal

pub returns : goal.returns
returns c = one_end
