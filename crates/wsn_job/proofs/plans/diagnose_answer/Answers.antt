use Rattle.std.proofs.Common.{rules}
use Rattle.wsn_job.proofs.plans.diagnose_answer.Goals as goal

pub returns-in-Ok-Unfinished : goal.returns-in-Ok-Unfinished
returns-in-Ok-Unfinished g c = search rules

pub returns-in-Ok-Plan : goal.returns-in-Ok-Plan
returns-in-Ok-Plan g c = search rules

pub returns-in-Ok-NotAccepted : goal.returns-in-Ok-NotAccepted
returns-in-Ok-NotAccepted g c = search rules

pub returns-in-Err : goal.returns-in-Err
returns-in-Err g c = search rules
