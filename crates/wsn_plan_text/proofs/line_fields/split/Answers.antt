use Rattle.std.proofs.Common.{ℕ, ◌+◌, ◌-◌, ◌≤◌, List, ◌∷◌, ◌++◌, length, take, drop, sym, ap, ◌∙◌, arith, length-drop}
use Rattle.std.proofs.lemmas.List.{take_all}
use Rattle.wsn_plan_text.proofs.FirstPlaces.{cut_at_place, cut_nowhere}
use Rattle.wsn_plan_text.proofs.line_fields.split.Goals as goal

pub returns-in-Some : goal.returns-in-Some
returns-in-Some c =
    let text : List ℕ = c.args.text.now in
    let at : ℕ = c.in-Some.at in
    let split = cut_at_place c.args.byte at text c.in-Some.ensures in
    let fits : length (drop (at + 1) text) ≤ length text - (at + 1) = omega (arith, length-drop (at + 1) text) in
    let whole = take_all (length text - (at + 1)) (drop (at + 1) text) fits in
    (split.1, split.2 ∙ ap (λ (rest : List ℕ). take at text ++ c.args.byte ∷ rest) (sym whole))

pub returns-in-None : goal.returns-in-None
returns-in-None c = cut_nowhere c.args.byte c.args.text.now c.in-None.ensures
