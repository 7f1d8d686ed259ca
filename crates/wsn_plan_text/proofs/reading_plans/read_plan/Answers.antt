use Rattle.std.proofs.Common.{arith, subst, sym, ◌+◌, length, ◌<◌, rules}
use Rattle.std.proofs.lemmas.Grind.{common_steps}
use Rattle.wsn_plan_text.proofs.SplitLines.{empty_text}
use Rattle.wsn_plan_text.proofs.ReadPlans.{HasReadPlan, all_read, begins_read, fault_read, one_more_read, shorter}
use Rattle.wsn_plan_text.proofs.reading_plans.read_plan.Goals as goal

pub returns-in-Err : goal.returns-in-Err
returns-in-Err g c =
    fault_read c.args.text.now c.loop-rest.rest.now c.next_line.result.0.now c.next_line.result.1.now c.loop-rest.plan c.loop-rest.number c.in-Err.why
    c.loop-rest.invariant.read c.next_line.ensures c.in-Err.ensures

pub returns-in_default : goal.returns-in_default
returns-in_default g c =
    begins_read c.args.text.now c.loop-rest.rest.now c.next_line.result.0.now c.next_line.result.1.now c.loop-rest.plan c.loop-rest.number c.in-Ok.step
    c.loop-rest.invariant.read c.next_line.ensures c.in-Ok.ensures

pub loop-rest-preserved : goal.loop-rest-preserved
loop-rest-preserved g c =
    let less : length c.next_line.result.1.now < length c.loop-rest.rest.now =
    shorter c.loop-rest.rest.now c.next_line.result.0.now c.next_line.result.1.now c.next_line.ensures in
    let counted = c.loop-rest.invariant.counted in
    record {
      read =
          subst (λ plan. HasReadPlan c.args.text.now c.next_line.result.1.now plan (c.loop-rest.number + 1)) (sym c.in-Ok-push.ensures.pushed)
          (one_more_read c.args.text.now c.loop-rest.rest.now c.next_line.result.0.now c.next_line.result.1.now c.loop-rest.plan c.loop-rest.number
          c.in-Ok.step c.loop-rest.invariant.read c.next_line.ensures c.in-Ok.ensures);
      counted = omega (arith, less, counted);
    }

pub returns : goal.returns
returns g c =
    all_read c.args.text.now c.loop-rest.rest.now c.loop-rest.plan c.loop-rest.number c.loop-rest.invariant.read
    (empty_text c.loop-rest.rest.now c.is_empty.result c.is_empty.ensures c.loop-rest-test.false)

pub loop-rest-init : goal.loop-rest-init
loop-rest-init g c = search rules

pub next_line-requires : goal.next_line-requires
next_line-requires g c = search rules

pub overflow_add-number : goal.overflow_add-number
overflow_add-number g c = search rules

pub same-plan : goal.same-plan
same-plan g c = search rules

pub same-plan-in-loop-rest : goal.same-plan-in-loop-rest
same-plan-in-loop-rest g c = search rules

pub loop-rest-smaller : goal.loop-rest-smaller
loop-rest-smaller g c = grind (arith, common_steps)
