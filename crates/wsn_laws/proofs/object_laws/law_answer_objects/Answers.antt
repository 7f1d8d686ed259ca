use Rattle.wsn_laws.proofs.AnyAnswers.{one_of_any}
use Rattle.wsn_laws.proofs.object_laws.law_answer_objects.Goals as goal

pub returns : goal.returns
returns c = one_of_any
