use Rattle.std.proofs.Common.{rules}
use Rattle.wsn_cli.proofs.command_line.same_of.Goals as goal

pub returns-in-Some-clause-read : goal.returns-in-Some-clause-read
returns-in-Some-clause-read c = search rules

pub returns-in-Some-clause-done : goal.returns-in-Some-clause-done
returns-in-Some-clause-done c = search rules
