use Rattle.std.proofs.Common.{arith}
use Rattle.std.proofs.lemmas.Grind.{common_steps}
use Rattle.wsn_shown_text.proofs.people_columns.push_remainder.Goals as goal

pub returns : goal.returns
returns c = grind (arith, common_steps)
