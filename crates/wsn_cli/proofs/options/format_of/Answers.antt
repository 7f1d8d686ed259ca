use Rattle.std.proofs.Common.{rules}
use Rattle.wsn_cli.proofs.options.format_of.Goals as goal

pub returns-else-get_flag : goal.returns-else-get_flag
returns-else-get_flag c = search rules
