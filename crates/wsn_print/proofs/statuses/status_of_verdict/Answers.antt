use Rattle.std.proofs.Common.{rules}
use Rattle.wsn_print.proofs.statuses.status_of_verdict.Goals as goal

pub returns-in-Ok-Accepted : goal.returns-in-Ok-Accepted
returns-in-Ok-Accepted c = search rules

pub returns-in-Ok-Cut : goal.returns-in-Ok-Cut
returns-in-Ok-Cut c = search rules

pub returns-in-Err : goal.returns-in-Err
returns-in-Err c = search rules
