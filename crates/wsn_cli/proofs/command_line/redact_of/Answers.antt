use Rattle.std.proofs.Common.{rules}
use Rattle.wsn_cli.proofs.command_line.redact_of.Goals as goal

pub returns-in-None-2-clause-read : goal.returns-in-None-2-clause-read
returns-in-None-2-clause-read c = search rules

pub returns-in-Some-clause-read : goal.returns-in-Some-clause-read
returns-in-Some-clause-read c = search rules
