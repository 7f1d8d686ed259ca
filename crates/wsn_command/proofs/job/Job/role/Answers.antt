use Rattle.std.proofs.Common.{rules}
use Rattle.wsn_command.proofs.job.Job.role.Goals as goal

pub returns-in-Closing : goal.returns-in-Closing
returns-in-Closing g c = search rules

pub returns-in-Judge : goal.returns-in-Judge
returns-in-Judge g c = search rules

pub returns-in-Closing-2 : goal.returns-in-Closing-2
returns-in-Closing-2 g c = search rules

pub returns-in-Closing-3 : goal.returns-in-Closing-3
returns-in-Closing-3 g c = search rules
