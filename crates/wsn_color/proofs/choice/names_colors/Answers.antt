use Rattle.std.proofs.Common.{rules}
use Rattle.wsn_color.proofs.choice.names_colors.Goals as goal

pub returns-then-ne : goal.returns-then-ne
returns-then-ne c = search rules
