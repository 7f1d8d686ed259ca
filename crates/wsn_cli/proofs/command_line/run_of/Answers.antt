use Rattle.std.proofs.Common.{rules}
use Rattle.wsn_cli.proofs.command_line.run_of.Goals as goal

pub returns-clause-read : goal.returns-clause-read
returns-clause-read c = search rules
