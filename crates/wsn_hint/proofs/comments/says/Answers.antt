use Rattle.std.proofs.Common.{rules}
use Rattle.wsn_hint.proofs.comments.says.Goals as goal

pub returns-then-begins : goal.returns-then-begins
returns-then-begins c = search rules

pub returns-in-Answer : goal.returns-in-Answer
returns-in-Answer c = search rules
