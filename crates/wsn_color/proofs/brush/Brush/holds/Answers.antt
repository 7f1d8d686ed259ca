use Rattle.std.proofs.Common.{rules}
use Rattle.wsn_color.proofs.brush.Brush.holds.Goals as goal

pub returns-then-is_open-clause-held : goal.returns-then-is_open-clause-held
returns-then-is_open-clause-held c = search rules
