use Rattle.std.proofs.Common.{rules}
use Rattle.wsn_color.proofs.opening.sent_tone.Goals as goal

pub returns-then-is-2 : goal.returns-then-is-2
returns-then-is-2 c = search rules
