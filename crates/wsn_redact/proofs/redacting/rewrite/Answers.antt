use Rattle.std.proofs.Common.{arith, rules}
use Rattle.std.proofs.lemmas.Grind.{common_steps}
use Rattle.wsn_redact.proofs.redacting.rewrite.Goals as goal

pub returns-in-Closed : goal.returns-in-Closed
returns-in-Closed c = search rules

pub returns-in-Part : goal.returns-in-Part
returns-in-Part c = grind (arith, common_steps)

pub returns-in-Some : goal.returns-in-Some
returns-in-Some c = grind (arith, common_steps)
