use Rattle.std.proofs.Common.{rules}
use Rattle.wsn_hint.proofs.sides.compressed_hint.Goals as goal

pub returns-then-is_said-2 : goal.returns-then-is_said-2
returns-then-is_said-2 c = search rules
