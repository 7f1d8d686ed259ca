use Rattle.std.proofs.Common.{◌≡◌, ℕ, List, ◌++◌, codes, ap, ap₂, ◌∙◌, append_assoc}
use Rattle.wsn_print.specs.HeadText.{op_word}
use Rattle.wsn_shown_text.specs.PeopleText.{columns, last_text, mask_text, length_text}
use Rattle.wsn_shown_text.proofs.people_columns.push_frame.Goals as goal

six_parts : (line columns gap last mask long end : List ℕ)
    → (((((line ++ columns) ++ gap) ++ last) ++ mask) ++ long) ++ end ≡ line ++ (columns ++ gap ++ (last ++ mask ++ long) ++ end)
six_parts line columns gap last mask long end = simp append_assoc

pub returns : goal.returns
returns c =
    let line = c.args.line.now in
    let head = c.args.head.now in
    let first = λ (word : List ℕ). columns c.args.offset word head.len in
    c.push-4.ensures.text ∙ ap (λ (l : List ℕ). l ++ codes "\n") (c.push-3.ensures.text ∙ ap₂ (λ (l t : List ℕ). l ++ t)
    (c.push_mask.ensures.text ∙ ap (λ (l : List ℕ). l ++ mask_text head.key) (c.push-2.ensures.text ∙ ap₂ (λ (l t : List ℕ). l ++ t)
    (c.push.ensures.text ∙ ap (λ (l : List ℕ). l ++ codes "  ") (c.push_columns.ensures.text ∙ ap (λ (word : List ℕ). line ++ first word) c.op_word.ensures.word))
    c.last_text.ensures.text)) c.length_text.ensures.text)
    ∙ six_parts line (first (op_word head.op)) (codes "  ") (last_text head.fin) (mask_text head.key) (length_text head.form) (codes "\n")
