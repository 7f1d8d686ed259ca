use Rattle.std.proofs.Common.{◌≡◌, ℕ, None, List, [], ◌++◌, ap, ◌∙◌, codes, append_assoc, append-nil}
use Rattle.wsn_shown_text.specs.Members.Member.{Mark, Word, Number, Lacks}
use Rattle.wsn_shown_text.specs.EntryFormats.{offset_in, member_in, space_in}
use Rattle.wsn_shown_text.proofs.fields.push_unfinished_head.Goals as goal

all_fields : (l o m w n p k s : List ℕ) → ((((l ++ o) ++ m) ++ (w ++ (n ++ (p ++ [])))) ++ k) ++ s ≡ ((l ++ o) ++ (m ++ (w ++ (n ++ (p ++ (k ++ [])))))) ++ s
all_fields l o m w n p k s = simp (append_assoc, append-nil)

pub returns : goal.returns
returns c =
    let part = member_in c.args.shape in
    c.push_space.ensures.text ∙ ap (λ (l : List ℕ). l ++ space_in c.args.shape) (c.push_lacks.ensures.text ∙ ap (λ (l : List ℕ). l ++ part (Lacks None))
    (c.push_counts.ensures.text ∙ ap (λ (l : List ℕ). l ++ (part (Word (codes "event") (codes "head")) ++ (part (Number (codes "bytes") 0) ++ (part (Number (codes "frames") 0) ++ []))))
    (c.push_mark.ensures.text ∙ ap (λ (l : List ℕ). l ++ part (Mark (codes "unfinished"))) c.push_offset.ensures.text)))
    ∙ all_fields c.args.line.now (offset_in c.args.shape c.args.offset) (part (Mark (codes "unfinished"))) (part (Word (codes "event") (codes "head"))) (part (Number (codes "bytes") 0)) (part (Number (codes "frames") 0)) (part (Lacks None)) (space_in c.args.shape)
