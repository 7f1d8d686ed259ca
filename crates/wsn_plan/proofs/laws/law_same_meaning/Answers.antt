use Rattle.wsn_plan.proofs.SameMeaning.{same_meaning}
use Rattle.wsn_plan.proofs.laws.law_same_meaning.Goals as goal

pub returns : goal.returns
returns c = λ role limits planned all before after range are_plans done. same_meaning role limits planned all before after range are_plans done
