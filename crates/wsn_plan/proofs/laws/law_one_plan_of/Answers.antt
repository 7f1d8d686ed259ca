use Rattle.wsn_plan.proofs.OneRecut.{one_plan_of}
use Rattle.wsn_plan.proofs.laws.law_one_plan_of.Goals as goal

pub returns : goal.returns
returns g c = λ role limits all result other says also one two. one_plan_of role limits all result other says also one two
