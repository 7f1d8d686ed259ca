use Rattle.std.proofs.Common.{rules}
use Rattle.wsn_color.proofs.opening.Opening.later_tone.Goals as goal

pub returns-in-Outcome : goal.returns-in-Outcome
returns-in-Outcome c = search rules
