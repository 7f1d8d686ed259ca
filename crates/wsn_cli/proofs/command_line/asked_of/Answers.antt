use Rattle.std.proofs.Common.{rules}
use Rattle.wsn_cli.proofs.command_line.asked_of.Goals as goal

pub returns-clause-color : goal.returns-clause-color
returns-clause-color c = search rules

pub returns-clause-entries : goal.returns-clause-entries
returns-clause-entries c = search rules
