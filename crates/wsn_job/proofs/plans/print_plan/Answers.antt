use Rattle.std.proofs.Common.{rules}
use Rattle.wsn_job.proofs.plans.print_plan.Goals as goal

pub returns : goal.returns
returns g c = search rules

pub plan_of-requires : goal.plan_of-requires
plan_of-requires g c = search rules

pub returns-in_err-answer : goal.returns-in_err-answer
returns-in_err-answer g c = search rules

pub write_plan-requires : goal.write_plan-requires
write_plan-requires g c = search rules

pub returns-in_err-write_plan : goal.returns-in_err-write_plan
returns-in_err-write_plan g c = search rules
