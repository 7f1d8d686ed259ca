use Rattle.std.proofs.Common.{◌≡◌, ℕ, List, ◌++◌, codes, decimal, ap, ◌∙◌, append_assoc}
use Rattle.wsn_shown_text.specs.PeopleText.{right, left, offset_column}
use Rattle.wsn_shown_text.proofs.people_columns.push_columns.Goals as goal

five_parts : (line offset gap word space size : List ℕ)
    → ((((line ++ offset) ++ gap) ++ word) ++ space) ++ size ≡ line ++ (offset ++ gap ++ word ++ (space ++ size))
five_parts line offset gap word space size = simp append_assoc

pub returns-clause-text : goal.returns-clause-text
returns-clause-text c =
    let word = left 10 c.args.word.now in
    let size = right 5 (decimal c.args.size) in
    c.push_right.ensures.text ∙ ap (λ (l : List ℕ). l ++ size) (c.push-2.ensures.text ∙ ap (λ (l : List ℕ). l ++ codes " ")
    (c.push_left.ensures.text ∙ ap (λ (l : List ℕ). l ++ word) (c.push.ensures.text ∙ ap (λ (l : List ℕ). l ++ codes "  ") c.push_offset.ensures.text)))
    ∙ five_parts c.args.line.now (offset_column c.args.offset) (codes "  ") word (codes " ") size
