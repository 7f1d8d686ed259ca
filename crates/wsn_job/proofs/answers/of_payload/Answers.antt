use Rattle.std.proofs.Common.{rules}
use Rattle.wsn_job.proofs.answers.of_payload.Goals as goal

pub returns-in-Ok-Nothing : goal.returns-in-Ok-Nothing
returns-in-Ok-Nothing c = search rules
