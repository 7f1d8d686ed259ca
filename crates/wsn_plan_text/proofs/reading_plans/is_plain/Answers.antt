use Rattle.std.proofs.Common.{rules, arith}
use Rattle.std.proofs.lemmas.Grind.{common_steps}
use Rattle.wsn_plan_text.proofs.reading_plans.is_plain.Goals as goal

pub bounds-field-matches-0 : goal.bounds-field-matches-0
bounds-field-matches-0 c = search rules

pub bounds-field-matches-0-2 : goal.bounds-field-matches-0-2
bounds-field-matches-0-2 c = search rules

pub bounds-field-matches-0-3 : goal.bounds-field-matches-0-3
bounds-field-matches-0-3 c = search rules

pub bounds-field-matches-0-4 : goal.bounds-field-matches-0-4
bounds-field-matches-0-4 c = search rules

pub bounds-field-matches-0-5 : goal.bounds-field-matches-0-5
bounds-field-matches-0-5 c = search rules

pub returns-in-48 : goal.returns-in-48
returns-in-48 c = grind (arith, common_steps)

pub returns-in-48-2 : goal.returns-in-48-2
returns-in-48-2 c = search rules

pub returns-in-48-3 : goal.returns-in-48-3
returns-in-48-3 c = search rules

pub returns-in_default : goal.returns-in_default
returns-in_default c = grind (arith, common_steps)

pub returns-in_default-2 : goal.returns-in_default-2
returns-in_default-2 c = search rules

pub returns-in_default-3 : goal.returns-in_default-3
returns-in_default-3 c = search rules

pub returns-in_default-4 : goal.returns-in_default-4
returns-in_default-4 c = search rules

pub returns-in_default-5 : goal.returns-in_default-5
returns-in_default-5 c = search rules
