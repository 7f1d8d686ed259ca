use Rattle.std.proofs.Common.{rules}
use Rattle.wsn_job.proofs.verdicts.diagnose_unless_accepted.Goals as goal

pub returns-in-Ok : goal.returns-in-Ok
returns-in-Ok g c = search rules

pub returns-in-Ok-Accepted : goal.returns-in-Ok-Accepted
returns-in-Ok-Accepted g c = search rules

pub returns-in-Err : goal.returns-in-Err
returns-in-Err g c = search rules
