use Rattle.std.proofs.Common.{rules}
use Rattle.wsn_color.proofs.opening.name_tone.Goals as goal

pub returns-then-is-3 : goal.returns-then-is-3
returns-then-is-3 c = search rules
