use Rattle.std.proofs.Common.{arith}
use Rattle.std.proofs.lemmas.Grind.{common_steps}
use Rattle.wsn_hint.proofs.formats.is_hex_dump.Goals as goal

pub returns-then-digits_at_start-eq8 : goal.returns-then-digits_at_start-eq8
returns-then-digits_at_start-eq8 c = grind (arith, common_steps)

pub returns-else-digits_at_start-eq8 : goal.returns-else-digits_at_start-eq8
returns-else-digits_at_start-eq8 c = grind (arith, common_steps)
