use Rattle.std.proofs.Common.{rules}
use Rattle.wsn_color.proofs.layout.Layout.separator.Goals as goal

pub returns-in-Table : goal.returns-in-Table
returns-in-Table c = search rules
