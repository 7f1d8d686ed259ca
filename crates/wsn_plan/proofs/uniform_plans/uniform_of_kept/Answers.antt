use Rattle.std.proofs.Common.{◌≡◌, ◌+◌, ◌++◌, ◌∷◌, List, map, drop, ap, ◌∙◌, arith}
use Rattle.wsn_rules.specs.Meaning.{MeantEvent}
use Rattle.wsn_rules.specs.UniformPlan.{uniform_plan}
use Rattle.wsn_plan.specs.Gathering.{kept_meant}
use Rattle.wsn_plan.proofs.EventsAhead.{stands_for}
use Rattle.wsn_plan.proofs.UniformSteps.{plan_after, counts_control, ends_message}
use Rattle.wsn_plan.proofs.uniform_plans.uniform_of_kept.Goals as goal
use Rattle.wsn_plan.proofs.uniform_plans.uniform_of_kept.Goals.{in-Some+in_ok-push_message, in_default}

pub loop-event-preserved : goal.loop-event-preserved
loop-event-preserved g c =
    let events = map kept_meant c.args.events.now in
    let whole = uniform_plan c.args.frames.size c.args.frames.weave c.args.frames.key events in
    let plan = c.loop-event.plan in
    let event = kept_meant c.event-item.result in
    let later = drop (c.loop-event.event-index + 1) events in
    let so_far : whole ≡ plan ++ plan_after c.args.frames.size c.args.frames.weave c.args.frames.key c.loop-event.controls (event ∷ later) =
    c.loop-event.invariant.plan
    ∙ ap (λ (left : List MeantEvent). plan ++ plan_after c.args.frames.size c.args.frames.weave c.args.frames.key c.loop-event.controls left) (stands_for kept_meant c.args.events.now c.loop-event.event-index c.event-item.result c.loop-event-test.true c.event-item.is) in
    elim c.match-message_len.branch [
      | in-Some+in_ok-push_message w ↦ rw (w.plan-is, w.controls-is) (record {
        few = omega arith;
        plan = ends_message c.args.frames.size c.args.frames.weave c.args.frames.key plan w.push_message.new.plan whole c.loop-event.controls w.in-Some.bytes event later w.in-Some.ensures so_far w.in_ok-push_message.ensures.pushed;
      })
      | in_default w ↦ rw (w.plan-is, w.controls-is) (record {
        few = omega (arith, c.loop-event.invariant.few);
        plan = counts_control c.args.frames.size c.args.frames.weave c.args.frames.key plan whole c.loop-event.controls event later w.in_default.ensures so_far;
      })
    ]
