use Rattle.std.proofs.Common.{rules}
use Rattle.wsn_cli.proofs.options.lengths_of.Goals as goal

pub returns-in-Some-any : goal.returns-in-Some-any
returns-in-Some-any c = search rules
