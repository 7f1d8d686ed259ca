use Rattle.std.proofs.Common.{rules, arith}
use Rattle.std.proofs.lemmas.Grind.{common_steps}
use Rattle.wsn_hint.proofs.streams.is_text_byte.Goals as goal

pub returns-in-9-3 : goal.returns-in-9-3
returns-in-9-3 c = search rules

pub returns-in_default : goal.returns-in_default
returns-in_default c = grind (arith, common_steps)

pub returns-in_default-2 : goal.returns-in_default-2
returns-in_default-2 c = grind (arith, common_steps)

pub returns-in_default-3 : goal.returns-in_default-3
returns-in_default-3 c = grind (arith, common_steps)

pub returns-in-9 : goal.returns-in-9
returns-in-9 c = grind (arith, common_steps)

pub returns-in-9-2 : goal.returns-in-9-2
returns-in-9-2 c = grind (arith, common_steps)
