use Rattle.std.proofs.Common.{arith, rules}
use Rattle.std.proofs.lemmas.Grind.{common_steps}
use Rattle.wsn_capture.proofs.line_form.form_of.Goals as goal

pub returns-in-67-2 : goal.returns-in-67-2
returns-in-67-2 c = grind (arith, common_steps)

pub bounds-text-0 : goal.bounds-text-0
bounds-text-0 c = search rules

pub bounds-text-0-then-text-lt3 : goal.bounds-text-0-then-text-lt3
bounds-text-0-then-text-lt3 c = search rules

pub bounds-text-1 : goal.bounds-text-1
bounds-text-1 c = search rules

pub bounds-text-1-in-83-1 : goal.bounds-text-1-in-83-1
bounds-text-1-in-83-1 c = search rules

pub bounds-text-0-2 : goal.bounds-text-0-2
bounds-text-0-2 c = search rules

pub bounds-text-1-in-67-text-5 : goal.bounds-text-1-in-67-text-5
bounds-text-1-in-67-text-5 c = search rules

pub bounds-text-1-in-83-text-5 : goal.bounds-text-1-in-83-text-5
bounds-text-1-in-83-text-5 c = search rules

pub returns-in-83-2 : goal.returns-in-83-2
returns-in-83-2 c = grind (arith, common_steps)

pub returns-in-83 : goal.returns-in-83
returns-in-83 c = grind (arith, common_steps)

pub returns-in-83-3 : goal.returns-in-83-3
returns-in-83-3 c = grind (arith, common_steps)

pub returns-in-67 : goal.returns-in-67
returns-in-67 c = grind (arith, common_steps)

pub returns-in-67-3 : goal.returns-in-67-3
returns-in-67-3 c = grind (arith, common_steps)

pub returns-in_default : goal.returns-in_default
returns-in_default c = search rules

pub returns-in_default-2 : goal.returns-in_default-2
returns-in_default-2 c = search rules

pub returns-in_default-3 : goal.returns-in_default-3
returns-in_default-3 c = search rules

pub returns-in_default-4 : goal.returns-in_default-4
returns-in_default-4 c = search rules

pub returns-in_default-5 : goal.returns-in_default-5
returns-in_default-5 c = search rules

pub returns-in_default-6 : goal.returns-in_default-6
returns-in_default-6 c = search rules

pub returns-in_default-7 : goal.returns-in_default-7
returns-in_default-7 c = search rules

pub returns-in-empty : goal.returns-in-empty
returns-in-empty c = grind (arith, common_steps)

pub returns-in-empty-2 : goal.returns-in-empty-2
returns-in-empty-2 c = grind (arith, common_steps)

pub returns-in-empty-3 : goal.returns-in-empty-3
returns-in-empty-3 c = grind (arith, common_steps)

pub returns-in-empty-4 : goal.returns-in-empty-4
returns-in-empty-4 c = grind (arith, common_steps)
