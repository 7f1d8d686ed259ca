use Rattle.std.proofs.Common.{rules}
use Rattle.wsn_cli.proofs.options.comparison_of.Goals as goal

pub returns-clause-read : goal.returns-clause-read
returns-clause-read c = search rules
