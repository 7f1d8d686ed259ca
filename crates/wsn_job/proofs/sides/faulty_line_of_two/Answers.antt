use Rattle.std.proofs.Common.{rules}
use Rattle.wsn_job.proofs.sides.faulty_line_of_two.Goals as goal

pub returns-in-Err-Read : goal.returns-in-Err-Read
returns-in-Err-Read g c = search rules

pub returns-in-Err-Read-2 : goal.returns-in-Err-Read-2
returns-in-Err-Read-2 g c = search rules
