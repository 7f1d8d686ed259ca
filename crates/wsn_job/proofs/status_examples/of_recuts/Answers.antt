use Rattle.std.proofs.Common.{refl}
use Rattle.wsn_job.proofs.status_examples.of_recuts.Goals as goal

pub returns : goal.returns
returns c = record { done = refl; not_accepted = λ verdict. refl; fault = λ step why. refl; stop = λ stopped. refl }
