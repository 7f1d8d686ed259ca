use Rattle.std.proofs.Common.{rules}
use Rattle.wsn_color.proofs.choice.is_vt.Goals as goal

pub returns-in-118 : goal.returns-in-118
returns-in-118 c = search rules
