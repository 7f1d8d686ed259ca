use Rattle.std.proofs.Common.{rules}
use Rattle.wsn_plan.proofs.recutting.refragment.Goals as goal

pub returns-in-Some : goal.returns-in-Some
returns-in-Some g c = search rules

pub fault_of-requires : goal.fault_of-requires
fault_of-requires g c = record { range = search rules; lawful = search rules }

pub put_steps-requires : goal.put_steps-requires
put_steps-requires g c = record { unfailed = search rules; fits = search rules }

pub returns-in_err-put_steps : goal.returns-in_err-put_steps
returns-in_err-put_steps g c = search rules

pub returns : goal.returns
returns g c = search rules
