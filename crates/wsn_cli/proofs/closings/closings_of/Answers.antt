use Rattle.std.proofs.Common.{rules}
use Rattle.wsn_cli.proofs.closings.closings_of.Goals as goal

pub returns-clause-done : goal.returns-clause-done
returns-clause-done c = search rules
