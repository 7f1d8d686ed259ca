use Rattle.std.proofs.Common.{rules}
use Rattle.wsn_cli.proofs.named_input.open_named.Goals as goal

pub returns-then-is_folder : goal.returns-then-is_folder
returns-then-is_folder c = search rules
