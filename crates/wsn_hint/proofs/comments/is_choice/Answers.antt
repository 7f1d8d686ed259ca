use Rattle.std.proofs.Common.{rules}
use Rattle.wsn_hint.proofs.comments.is_choice.Goals as goal

pub returns-else-begins : goal.returns-else-begins
returns-else-begins c = search rules
