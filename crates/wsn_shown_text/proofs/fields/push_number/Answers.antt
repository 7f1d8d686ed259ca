use Rattle.std.proofs.Common.{arith}
use Rattle.std.proofs.lemmas.Grind.{common_steps}
use Rattle.wsn_shown_text.proofs.fields.push_number.Goals as goal

pub returns-in-Line-clause-text : goal.returns-in-Line-clause-text
returns-in-Line-clause-text c = grind (arith, common_steps)

pub returns-in-Line-clause-len : goal.returns-in-Line-clause-len
returns-in-Line-clause-len c = grind (arith, common_steps)

pub returns-in-Object-clause-text : goal.returns-in-Object-clause-text
returns-in-Object-clause-text c = grind (arith, common_steps)

pub returns-in-Object-clause-len : goal.returns-in-Object-clause-len
returns-in-Object-clause-len c = grind (arith, common_steps)
