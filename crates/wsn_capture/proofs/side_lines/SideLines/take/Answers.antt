use Rattle.std.proofs.Common.{◌≡◌, ◌++◌, ℕ, List, length, take, drop, sym, ap, ◌∙◌, subst, arith, append_assoc, take-append-drop, length-append, length-take-le, rules}
use Rattle.wsn_rules.specs.TextLines.{IsLine, lines_of}
use Rattle.wsn_capture.specs.SideStates.{side_left}
use Rattle.wsn_capture.proofs.SplitLines.{line_join}
use Rattle.wsn_capture.proofs.SideSteps.{ended_text, fewer_ahead}
use Rattle.wsn_capture.proofs.side_lines.SideLines.take.Goals as goal

pub returns-then-ended-clause-left : goal.returns-then-ended-clause-left
returns-then-ended-clause-left c later =
    let chunk = c.args.chunk.now in
    let count = c.take-count.result.0 in
    let ends = c.take-count.ensures.ends c.if-ended.true in
    ap (λ (bs : List ℕ). side_left c.end_line.new.self.side (lines_of (bs ++ (drop count chunk ++ later)))) c.end_line.ensures.begun
    ∙ c.end_line.ensures.left (lines_of (drop count chunk ++ later))
    ∙ ended_text c.args.self.now.side c.args.self.now.begun c.take-count.new.self chunk later count c.requires.in_line ends

pub returns-then-ended-clause-short : goal.returns-then-ended-clause-short
returns-then-ended-clause-short c =
    omega (arith, ap (λ (bs : List ℕ). length bs) c.end_line.ensures.begun)

pub returns-then-ended-clause-in_line : goal.returns-then-ended-clause-in_line
returns-then-ended-clause-in_line c = subst IsLine (sym c.end_line.ensures.begun) tt

pub returns-else-ended : goal.returns-else-ended
returns-else-ended c = record {
  left = λ later.
      let old = c.args.self.now in
      let chunk = c.args.chunk.now in
      let count = c.take-count.result.0 in
      let goes = c.take-count.ensures.goes_on c.if-ended.false in
      ap (λ (bs : List ℕ). side_left old.side (lines_of bs))
      (ap (λ (bs : List ℕ). bs ++ (drop count chunk ++ later)) goes.is ∙ append_assoc old.begun (take count chunk) (drop count chunk ++ later)
      ∙ ap (λ (bs : List ℕ). old.begun ++ bs) (sym (append_assoc (take count chunk) (drop count chunk) later) ∙ ap (λ (bs : List ℕ). bs ++ later) (take-append-drop count chunk)));
  short = (c.take-count.ensures.goes_on c.if-ended.false).short;
  in_line = let goes = c.take-count.ensures.goes_on c.if-ended.false in
      subst IsLine (sym goes.is) (line_join c.args.self.now.begun (take c.take-count.result.0 c.args.chunk.now) c.requires.in_line goes.in_line);
  falls = let goes = c.take-count.ensures.goes_on c.if-ended.false in
      let whole : length c.take-count.new.self ≡ length (c.args.self.now.begun ++ take c.take-count.result.0 c.args.chunk.now) = ap (λ (bs : List ℕ). length bs) goes.is in
      let sizes = length-append c.args.self.now.begun (take c.take-count.result.0 c.args.chunk.now) in
      let size = length-take-le c.take-count.result.0 c.args.chunk.now c.take-count.ensures.within.1 in
      fewer_ahead c.args.self.now.side c.args.self.now.begun c.take-count.new.self c.requires.ready (omega (arith, goes.short)) (omega (arith, whole, sizes, size, c.take-count.ensures.within.0));
  more = search rules;
  within = search rules;
}
