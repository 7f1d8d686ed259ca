use Rattle.std.proofs.Common.{rules}
use Rattle.wsn_job.proofs.sides.FaultyLine.diagnose.Goals as goal

pub returns : goal.returns
returns g c = search rules
