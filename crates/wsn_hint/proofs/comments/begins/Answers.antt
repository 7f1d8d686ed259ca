use Rattle.std.proofs.lemmas.Grind.{common_steps}
use Rattle.std.proofs.Common.{ℕ, length, take, arith}
use Rattle.std.proofs.lemmas.Bool.{eqb-true, eq-eqb}
use Rattle.std.proofs.lemmas.Slice.Eq.{slice_eq-Decides}
use Rattle.wsn_hint.proofs.CommentLines.{begins_of_front}
use Rattle.wsn_hint.proofs.comments.begins.Goals as goal

pub returns : goal.returns
returns c =
    let line = c.args.line.now in
    let label = c.args.label.now in
    begins_of_front line label c.eq.result (slice_eq-Decides (λ (a b : ℕ). (eqb-true a b, eq-eqb a b)) (take (length label) line) label c.eq.result c.eq.ensures)

pub returns-then-line-label : goal.returns-then-line-label
returns-then-line-label c = grind (arith, common_steps)
