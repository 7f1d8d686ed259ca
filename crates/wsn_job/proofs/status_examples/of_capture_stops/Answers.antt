use Rattle.std.proofs.Common.{refl}
use Rattle.std.specs.Fmt.{digits}
use Rattle.wsn_job.proofs.status_examples.of_capture_stops.Goals as goal

pub returns-clause-read : goal.returns-clause-read
returns-clause-read c = refl

pub returns-clause-line : goal.returns-clause-line
unfolding digits
returns-clause-line c = refl

pub returns-clause-many : goal.returns-clause-many
unfolding digits
returns-clause-many c = refl

pub returns-clause-write : goal.returns-clause-write
returns-clause-write c = refl
