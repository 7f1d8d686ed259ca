use Rattle.std.proofs.Common.{take}
use Rattle.wsn_plan_text.specs.PlanText.{plan_text}
use Rattle.wsn_print.proofs.Gathered.{IsGathered}
use Rattle.wsn_plan_text.proofs.writing_plans.write_plan.Given as goal

-- The lines of the steps so far are written, or held after those that are.
abbrev pub invariant-loop-step : goal.invariant-loop-step
invariant-loop-step g l = IsGathered l.fn.output l.output (plan_text (take l.step-index l.step-items)) l.lines
