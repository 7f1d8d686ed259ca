use Rattle.std.proofs.Common.{rules}
use Rattle.wsn_hint.proofs.sides.are_exchanged.Goals as goal

pub returns-then-is_for_mask-clause-exchanged : goal.returns-then-is_for_mask-clause-exchanged
returns-then-is_for_mask-clause-exchanged c = search rules
