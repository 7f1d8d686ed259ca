use Rattle.std.proofs.Common.{rules}
use Rattle.wsn_color.proofs.opening.outcome_tone.Goals as goal

pub returns-then-is : goal.returns-then-is
returns-then-is c = search rules
