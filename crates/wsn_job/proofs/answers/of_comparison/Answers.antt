use Rattle.std.proofs.Common.{rules}
use Rattle.wsn_job.proofs.answers.of_comparison.Goals as goal

pub returns-in-Ok-Equal : goal.returns-in-Ok-Equal
returns-in-Ok-Equal c = search rules
