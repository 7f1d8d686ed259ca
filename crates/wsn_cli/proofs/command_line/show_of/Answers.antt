use Rattle.std.proofs.Common.{rules}
use Rattle.wsn_cli.proofs.command_line.show_of.Goals as goal

pub returns-in-None-clause-read : goal.returns-in-None-clause-read
returns-in-None-clause-read c = search rules
