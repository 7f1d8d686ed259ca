use Rattle.std.proofs.Common.{rules, arith}
use Rattle.std.proofs.lemmas.Grind.{common_steps}
use Rattle.wsn_hint.proofs.captures.may_begin_line.Goals as goal

pub returns-else-matches-2 : goal.returns-else-matches-2
returns-else-matches-2 c = search rules

pub returns-then-matches : goal.returns-then-matches
returns-then-matches c = grind (arith, common_steps)

pub returns-in-32 : goal.returns-in-32
returns-in-32 c = grind (arith, common_steps)

pub returns-in_default-matches-2 : goal.returns-in_default-matches-2
returns-in_default-matches-2 c = grind (arith, common_steps)
