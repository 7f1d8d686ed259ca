use Rattle.std.proofs.Common.{◌≡◌, ℕ, List, [], ◌++◌, ap, ap₂, ◌∙◌, codes, append_assoc, append-nil}
use Rattle.wsn_print.specs.HeadText.{op_word}
use Rattle.wsn_shown_text.specs.Members.{event_members}
use Rattle.wsn_shown_text.specs.Members.Member.{Mark, Word, Number, Lacks}
use Rattle.wsn_shown_text.specs.EntryFormats.{offset_in, member_in, members_in, space_in}
use Rattle.wsn_shown_text.proofs.fields.push_unfinished.Goals as goal

all_fields : (l o m w n p k s : List ℕ) → ((((l ++ o) ++ m) ++ (w ++ (n ++ (p ++ [])))) ++ k) ++ s ≡ ((l ++ o) ++ (m ++ (w ++ (n ++ (p ++ (k ++ [])))))) ++ s
all_fields l o m w n p k s = simp (append_assoc, append-nil)

pub returns : goal.returns
returns c =
    let shape = c.args.shape in
    let event = c.args.event.now in
    let part = member_in shape in
    c.push_space.ensures.text ∙ ap (λ (l : List ℕ). l ++ space_in shape) (c.push_lacks.ensures.text ∙ ap (λ (l : List ℕ). l ++ part (Lacks c.args.lacks))
    (c.push_counts.ensures.text ∙ ap₂ (λ (l word : List ℕ). l ++ members_in shape (event_members word event.bytes event.frames))
    (c.push_mark.ensures.text ∙ ap (λ (l : List ℕ). l ++ part (Mark (codes "unfinished"))) c.push_offset.ensures.text) c.op_word.ensures.word))
    ∙ all_fields c.args.line.now (offset_in shape c.args.offset) (part (Mark (codes "unfinished"))) (part (Word (codes "event") (op_word event.op))) (part (Number (codes "bytes") event.bytes)) (part (Number (codes "frames") event.frames)) (part (Lacks c.args.lacks)) (space_in shape)
