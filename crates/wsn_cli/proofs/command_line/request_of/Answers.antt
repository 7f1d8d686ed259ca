use Rattle.std.proofs.Common.{rules}
use Rattle.wsn_cli.proofs.command_line.request_of.Goals as goal

pub returns-in_default-clause-read : goal.returns-in_default-clause-read
returns-in_default-clause-read c = search rules
