use Rattle.std.proofs.Common.{rules}
use Rattle.wsn_cli.proofs.command_line.side_of_job.Goals as goal

pub returns-clause-own : goal.returns-clause-own
returns-clause-own c = search rules
