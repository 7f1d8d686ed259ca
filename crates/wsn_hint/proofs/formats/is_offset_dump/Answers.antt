use Rattle.std.proofs.Common.{arith}
use Rattle.std.proofs.lemmas.Grind.{common_steps}
use Rattle.wsn_hint.proofs.formats.is_offset_dump.Goals as goal

pub returns-then-matches : goal.returns-then-matches
returns-then-matches c = grind (arith, common_steps)

pub returns-else-matches : goal.returns-else-matches
returns-else-matches c = grind (arith, common_steps)
