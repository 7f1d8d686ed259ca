use Rattle.std.proofs.Common.{rules}
use Rattle.wsn_hint.proofs.sides.is_for_mask.Goals as goal

pub returns-then-refusal-eq1-2 : goal.returns-then-refusal-eq1-2
returns-then-refusal-eq1-2 c = search rules
