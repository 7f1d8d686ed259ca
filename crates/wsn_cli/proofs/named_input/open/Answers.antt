use Rattle.std.proofs.Common.{rules}
use Rattle.wsn_cli.proofs.named_input.open.Goals as goal

pub returns : goal.returns
returns c = search rules
