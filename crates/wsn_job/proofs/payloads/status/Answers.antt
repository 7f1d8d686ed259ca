use Rattle.std.proofs.Common.{rules}
use Rattle.wsn_job.proofs.payloads.status.Goals as goal

pub returns-in-Ok-Unfinished : goal.returns-in-Ok-Unfinished
returns-in-Ok-Unfinished c = search rules
