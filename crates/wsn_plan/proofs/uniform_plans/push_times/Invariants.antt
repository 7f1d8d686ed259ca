use Rattle.std.proofs.Common.{◌≡◌, ◌++◌, replicate}
use Rattle.wsn_plan.proofs.uniform_plans.push_times.Given as goal

abbrev pub invariant-loop : goal.invariant-loop
invariant-loop g l = l.plan ≡ l.initial.plan ++ replicate l.counter l.step
