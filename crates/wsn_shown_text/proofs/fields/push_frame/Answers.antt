use Rattle.std.proofs.Common.{arith}
use Rattle.std.proofs.lemmas.Grind.{common_steps}
use Rattle.wsn_shown_text.proofs.fields.push_frame.Goals as goal

pub returns-in-Line : goal.returns-in-Line
returns-in-Line c = grind (arith, common_steps)
