use Rattle.std.proofs.Common.{rules}
use Rattle.wsn_plan_text.proofs.HeldPlans.{pushed_held}
use Rattle.wsn_plan_text.proofs.plan.Plan.push.Goals as goal

pub invariant_of-self : goal.invariant_of-self
invariant_of-self g c =
    pushed_held c.self.inside.steps.items _ c.args.step _ c.push.ensures.items c.self.invariant c.law_step.ensures.key c.law_step.ensures.length

pub returns : goal.returns
returns g c = record { pushed = search rules; refused = search rules }
