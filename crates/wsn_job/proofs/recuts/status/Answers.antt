use Rattle.std.proofs.Common.{rules}
use Rattle.wsn_job.proofs.recuts.status.Goals as goal

pub returns-in-Ok-Done : goal.returns-in-Ok-Done
returns-in-Ok-Done c = search rules

pub returns-in-Ok-NotAccepted : goal.returns-in-Ok-NotAccepted
returns-in-Ok-NotAccepted c = search rules

pub returns-in-Err : goal.returns-in-Err
returns-in-Err c = search rules
