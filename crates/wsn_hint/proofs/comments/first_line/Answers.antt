use Rattle.std.proofs.Common.{◌≡◌, ◌+◌, ◌-◌, ℕ, suc, List, ◌∷◌, length, take, drop, sym, subst, take_all, length-drop, arith}
use Rattle.wsn_rules.specs.TextLines.{lines_of}
use Rattle.wsn_hint.proofs.CommentLines.{line_to, line_alone}
use Rattle.wsn_hint.proofs.comments.first_line.Goals as goal

pub returns-in-Some-clause-lines : goal.returns-in-Some-clause-lines
returns-in-Some-clause-lines c =
    let text = c.args.text.now in
    let end = c.in-Some.end in
    let found = c.in-Some.ensures in
    let after : suc end ≡ end + 1 = omega arith in
    let rest : take (length text - (end + 1)) (drop (end + 1) text) ≡ drop (end + 1) text =
    take_all (length text - (end + 1)) (drop (end + 1) text) (omega (arith, length-drop (end + 1) text)) in
    subst (λ (later : List ℕ). lines_of text ≡ take end text ∷ lines_of later) (sym rest)
    (subst (λ (n : ℕ). lines_of text ≡ take end text ∷ lines_of (drop n text)) after
    (line_to text end (λ k low high. found.0.before k low high) found.0.high found.1))

pub returns-in-None-clause-lines : goal.returns-in-None-clause-lines
returns-in-None-clause-lines c = line_alone c.args.text.now (λ k low high. c.in-None.ensures k low high) c.requires
