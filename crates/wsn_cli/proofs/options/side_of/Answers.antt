use Rattle.std.proofs.Common.{rules}
use Rattle.wsn_cli.proofs.options.side_of.Goals as goal

pub returns-clause-read : goal.returns-clause-read
returns-clause-read c = search rules

pub returns-clause-own : goal.returns-clause-own
returns-clause-own c = search rules
