use Rattle.std.proofs.Common.{arith, rules}
use Rattle.std.proofs.lemmas.Grind.{common_steps}
use Rattle.wsn_color.proofs.line.Line.decide.Goals as goal

pub returns-then-is_some-clause-line : goal.returns-then-is_some-clause-line
returns-then-is_some-clause-line c = grind (arith, common_steps)

pub returns-else-is_some-clause-line : goal.returns-else-is_some-clause-line
returns-else-is_some-clause-line c = search rules
