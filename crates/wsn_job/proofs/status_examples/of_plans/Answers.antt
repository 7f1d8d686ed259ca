use Rattle.std.proofs.Common.{refl}
use Rattle.wsn_job.proofs.status_examples.of_plans.Goals as goal

pub returns : goal.returns
returns c = record { plan = λ plan. refl; not_accepted = λ verdict. refl; unfinished = refl; stop = λ stopped. refl }
