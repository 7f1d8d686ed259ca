use Rattle.std.proofs.Common.{rules, arith}
use Rattle.std.proofs.lemmas.Grind.{common_steps}
use Rattle.wsn_frame.proofs.payload_check.PayloadCheck.is_cut.Goals as goal

pub returns-then-fin : goal.returns-then-fin
returns-then-fin c = grind (arith, common_steps)

pub returns-else-fin : goal.returns-else-fin
returns-else-fin c = grind (arith, common_steps)

pub returns-in-Free : goal.returns-in-Free
returns-in-Free c = search rules

pub returns-in-Free-2 : goal.returns-in-Free-2
returns-in-Free-2 c = search rules
