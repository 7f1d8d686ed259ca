use Rattle.std.proofs.Common.{rules}
use Rattle.wsn_job.proofs.answers.of_verdict.Goals as goal

pub returns-in-Ok : goal.returns-in-Ok
returns-in-Ok c = search rules
