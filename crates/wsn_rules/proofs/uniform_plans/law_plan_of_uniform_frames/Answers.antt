use Rattle.wsn_rules.proofs.PlanTheory.UniformOfFrames.{plan_of_uniform}
use Rattle.wsn_rules.proofs.PlanTheory.FramesOfUniform.{uniform_by_plan}
use Rattle.wsn_rules.proofs.uniform_plans.law_plan_of_uniform_frames.Goals as goal

pub returns-clause-answers : goal.returns-clause-answers
returns-clause-answers c = plan_of_uniform

pub returns-clause-only_these : goal.returns-clause-only_these
returns-clause-only_these c = λ size key role limits fs some lawful same. uniform_by_plan size key some role limits fs lawful same
