use Rattle.wsn_rules.proofs.PlanTheory.ControlsFromTheFront.{only_one_interleaved}
use Rattle.wsn_rules.proofs.PlanTheory.UniformInterleaved.{uniform_is_interleaved, plain_between}
use Rattle.wsn_rules.proofs.uniform_plans.law_weave.Goals as goal

pub returns : goal.returns
returns c = record {
  plain = plain_between;
  interleaved = uniform_is_interleaved;
  only_this = only_one_interleaved;
}
