use Rattle.std.proofs.Common.{arith, rules}
use Rattle.std.proofs.lemmas.Grind.{common_steps}
use Rattle.wsn_plan_text.proofs.reading_plans.key_of.Goals as goal

pub returns-then-matches : goal.returns-then-matches
returns-then-matches c = grind (arith, common_steps)

pub bounds-field-matches-0 : goal.bounds-field-matches-0
bounds-field-matches-0 c = search rules

pub from_hex-requires : goal.from_hex-requires
from_hex-requires c = search rules

pub returns-in-Ok : goal.returns-in-Ok
returns-in-Ok c = search rules

pub returns-in-Err : goal.returns-in-Err
returns-in-Err c = search rules
