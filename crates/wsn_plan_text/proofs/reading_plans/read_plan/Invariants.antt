use Rattle.std.proofs.Common.{◌+◌, ◌≤◌, length}
use Rattle.wsn_plan_text.proofs.ReadPlans.{HasReadPlan}
use Rattle.wsn_plan_text.proofs.reading_plans.read_plan.Given as goal

abbrev pub invariant-loop-rest : goal.invariant-loop-rest
invariant-loop-rest g l = record {
  read : HasReadPlan l.fn.text l.rest l.plan l.number;
  counted : l.number + length l.rest ≤ length l.fn.text;
}

abbrev pub decreases-loop-rest : goal.decreases-loop-rest
decreases-loop-rest g l = length l.rest
