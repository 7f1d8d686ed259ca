use Rattle.std.proofs.Common.{◌≡◌, ℕ, List, ◌++◌, codes, ap, ap₂, ◌∙◌, append_assoc}
use Rattle.wsn_print.specs.HeadText.{op_word}
use Rattle.wsn_shown_text.specs.PeopleText.{columns, frames_text, people_lacks}
use Rattle.wsn_shown_text.proofs.people_columns.push_unfinished.Goals as goal

six_parts : (line columns gap word frames lacks end : List ℕ)
    → (((((line ++ columns) ++ gap) ++ word) ++ frames) ++ lacks) ++ end ≡ line ++ (columns ++ (gap ++ word) ++ frames ++ lacks ++ end)
six_parts line columns gap word frames lacks end = simp append_assoc

pub returns : goal.returns
returns c =
    let event = c.args.event.now in
    let frames = frames_text event.frames in
    let lacks = people_lacks c.args.lacks in
    c.push-3.ensures.text ∙ ap (λ (l : List ℕ). l ++ codes "  ") (c.push_lacks.ensures.text ∙ ap (λ (l : List ℕ). l ++ lacks)
    (c.push_frames.ensures.text ∙ ap (λ (l : List ℕ). l ++ frames) (c.push-2.ensures.text ∙ ap₂ (λ (l t : List ℕ). l ++ t)
    (c.push.ensures.text ∙ ap (λ (l : List ℕ). l ++ codes "  ") c.push_columns.ensures.text) c.op_word.ensures.word)))
    ∙ six_parts c.args.line.now (columns c.args.offset (codes "unfinished") event.bytes) (codes "  ") (op_word event.op) frames lacks (codes "  ")
