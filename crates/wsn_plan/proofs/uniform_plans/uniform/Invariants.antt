use Rattle.std.proofs.Common.{◌≡◌, ◌≤◌, ◌++◌, map, drop}
use Rattle.wsn_rules.specs.UniformPlan.{uniform_plan}
use Rattle.wsn_events.specs.EventsMeant.{meant}
use Rattle.wsn_plan.proofs.UniformSteps.{plan_after}
use Rattle.wsn_plan.proofs.uniform_plans.uniform.Given as goal

-- The whole plan is the plan so far, and then that of the counted controls and the events that are left.
abbrev pub invariant-loop-event : goal.invariant-loop-event
invariant-loop-event g l = record {
  few : l.controls ≤ l.event-index;
  plan : uniform_plan l.frames.size l.frames.weave l.frames.key (map meant l.events) ≡ l.plan ++ plan_after l.frames.size l.frames.weave l.frames.key l.controls (drop l.event-index (map meant l.events));
}
