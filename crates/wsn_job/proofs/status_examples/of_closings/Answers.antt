use Rattle.std.proofs.Common.{refl}
use Rattle.wsn_job.proofs.status_examples.of_closings.Goals as goal

pub returns-clause-clean : goal.returns-clause-clean
returns-clause-clean c r = refl

pub returns-clause-complete : goal.returns-clause-complete
returns-clause-complete c r = refl

pub returns-clause-failed : goal.returns-clause-failed
returns-clause-failed c r = refl

pub returns-clause-abnormal : goal.returns-clause-abnormal
returns-clause-abnormal c r = refl

pub returns-clause-half : goal.returns-clause-half
returns-clause-half c r = refl

pub returns-clause-open_streams : goal.returns-clause-open_streams
returns-clause-open_streams c r = refl

pub returns-clause-stop : goal.returns-clause-stop
returns-clause-stop c stopped = refl
