use Rattle.wsn_plan.proofs.UniformSteps.{pushed_more}
use Rattle.wsn_plan.proofs.uniform_plans.push_times.Goals as goal

pub loop-preserved : goal.loop-preserved
loop-preserved g c = pushed_more _ _ _ c.loop.counter c.args.step c.loop.invariant c.in_ok-push.ensures.pushed
