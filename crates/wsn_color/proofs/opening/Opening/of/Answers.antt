use Rattle.std.proofs.Common.{rules}
use Rattle.wsn_color.proofs.opening.Opening.of.Goals as goal

pub returns-then-is-8 : goal.returns-then-is-8
returns-then-is-8 c = search rules
