use Rattle.wsn_laws.proofs.EndedBy.{one_ended_by}
use Rattle.wsn_laws.proofs.object_laws.law_ended_by_objects.Goals as goal

pub returns : goal.returns
returns c = one_ended_by
