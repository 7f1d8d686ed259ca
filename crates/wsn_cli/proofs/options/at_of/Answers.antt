use Rattle.std.proofs.Common.{rules}
use Rattle.wsn_cli.proofs.options.at_of.Goals as goal

pub returns : goal.returns
returns c = search rules
