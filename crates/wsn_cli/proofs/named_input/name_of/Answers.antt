use Rattle.std.proofs.Common.{rules}
use Rattle.wsn_cli.proofs.named_input.name_of.Goals as goal

pub returns-in-None : goal.returns-in-None
returns-in-None c = search rules
