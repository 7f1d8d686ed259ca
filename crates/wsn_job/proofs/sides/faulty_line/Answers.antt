use Rattle.std.proofs.Common.{rules}
use Rattle.wsn_job.proofs.sides.faulty_line.Goals as goal

pub returns-in-Some-Line : goal.returns-in-Some-Line
returns-in-Some-Line g c = search rules
