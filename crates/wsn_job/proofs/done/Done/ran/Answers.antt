use Rattle.std.proofs.Common.{rules}
use Rattle.wsn_job.proofs.done.Done.ran.Goals as goal

pub returns : goal.returns
returns g c = search rules
