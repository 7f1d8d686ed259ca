use Rattle.std.proofs.Common.{◌≡◌, ℕ, List, ◌++◌, codes, decimal, ap, ap₂, ◌∙◌, append_assoc}
use Rattle.wsn_wire.specs.Refusal.{word_of, code_of}
use Rattle.wsn_shown_text.specs.PeopleText.{left, offset_column}
use Rattle.wsn_shown_text.proofs.people_columns.push_refused.Goals as goal

eight_parts : (line offset gap kind word at place should code : List ℕ)
    → (((((((line ++ offset) ++ gap) ++ kind) ++ word) ++ at) ++ place) ++ should) ++ code ≡ line ++ (offset ++ gap ++ kind ++ (word ++ at ++ place ++ should ++ code))
eight_parts line offset gap kind word at place should code = simp append_assoc

pub returns : goal.returns
returns c =
    let refusal = c.args.refusal.now in
    let kind = left 10 (codes "refused") in
    let should : List ℕ = codes ": a peer should close with " in
    c.push_number-2.ensures.text ∙ ap₂ (λ (l : List ℕ) (code : ℕ). l ++ decimal code)
    (c.push-4.ensures.text ∙ ap (λ (l : List ℕ). l ++ should) (c.push_number.ensures.text ∙ ap (λ (l : List ℕ). l ++ decimal refusal.offset)
    (c.push-3.ensures.text ∙ ap (λ (l : List ℕ). l ++ codes " at ") (c.push-2.ensures.text ∙ ap₂ (λ (l t : List ℕ). l ++ t)
    (c.push_left.ensures.text ∙ ap (λ (l : List ℕ). l ++ kind) (c.push.ensures.text ∙ ap (λ (l : List ℕ). l ++ codes "  ") c.push_offset.ensures.text)) c.word.ensures))))
    (c.from.ensures ∙ c.code.ensures)
    ∙ eight_parts c.args.line.now (offset_column c.args.offset) (codes "  ") kind (word_of refusal.reason) (codes " at ") (decimal refusal.offset) should (decimal (code_of refusal.reason))
