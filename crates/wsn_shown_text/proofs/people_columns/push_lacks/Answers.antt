use Rattle.std.proofs.Common.{ℕ, Option, ◌++◌, sym, ap, ◌∙◌, arith}
use Rattle.std.proofs.lemmas.Grind.{common_steps}
use Rattle.wsn_shown_text.specs.PeopleText.{people_lacks}
use Rattle.wsn_shown_text.proofs.people_columns.push_lacks.Goals as goal

pub returns-in-None-clause-text : goal.returns-in-None-clause-text
returns-in-None-clause-text c =
    c.push.ensures.text ∙ ap (λ (lacks : Option ℕ). c.args.line.now ++ people_lacks lacks) (sym c.in-None.is)

pub returns-in-Some-clause-text : goal.returns-in-Some-clause-text
returns-in-Some-clause-text c =
    c.push_missing.ensures.text ∙ ap (λ (lacks : Option ℕ). c.args.line.now ++ people_lacks lacks) (sym c.in-Some.is)

pub returns-in-None-clause-len : goal.returns-in-None-clause-len
returns-in-None-clause-len c = grind (arith, common_steps)

pub returns-in-Some-clause-len : goal.returns-in-Some-clause-len
returns-in-Some-clause-len c = grind (arith, common_steps)
