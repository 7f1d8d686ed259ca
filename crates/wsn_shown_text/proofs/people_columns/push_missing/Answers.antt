use Rattle.std.proofs.Common.{◌≡◌, ℕ, List, ◌++◌, codes, decimal, sym, ap, ◌∙◌, append_assoc, arith}
use Rattle.std.proofs.lemmas.Grind.{common_steps}
use Rattle.wsn_shown_text.specs.PeopleText.{missing_text}
use Rattle.wsn_shown_text.proofs.PeopleTexts.{missing_is}
use Rattle.wsn_shown_text.proofs.people_columns.push_missing.Goals as goal

pub returns-else-count-eq1-clause-text : goal.returns-else-count-eq1-clause-text
returns-else-count-eq1-clause-text c =
    let written : c.push-else-count-eq1-2.new.self ≡ c.args.line.now ++ (codes ", " ++ decimal c.args.count ++ codes " bytes missing") =
    simp (c.push-else-count-eq1-2.ensures.text, c.push_number.ensures.text, c.push-else-count-eq1.ensures.text, append_assoc) in
    written ∙ ap (λ (text : List ℕ). c.args.line.now ++ text) (missing_is c.args.count c.if-count-eq0.false c.if-count-eq1.false)

pub returns-then-count-eq0-clause-text : goal.returns-then-count-eq0-clause-text
returns-then-count-eq0-clause-text c =
    c.push.ensures.text ∙ ap (λ (n : ℕ). c.args.line.now ++ missing_text n) (sym c.if-count-eq0.true)

pub returns-then-count-eq1-clause-text : goal.returns-then-count-eq1-clause-text
returns-then-count-eq1-clause-text c =
    c.push-then-count-eq1.ensures.text ∙ ap (λ (n : ℕ). c.args.line.now ++ missing_text n) (sym c.if-count-eq1.true)

pub returns-else-count-eq1-clause-len : goal.returns-else-count-eq1-clause-len
returns-else-count-eq1-clause-len c = grind (arith, common_steps)

pub returns-then-count-eq0-clause-len : goal.returns-then-count-eq0-clause-len
returns-then-count-eq0-clause-len c = grind (arith, common_steps)

pub returns-then-count-eq1-clause-len : goal.returns-then-count-eq1-clause-len
returns-then-count-eq1-clause-len c = grind (arith, common_steps)
