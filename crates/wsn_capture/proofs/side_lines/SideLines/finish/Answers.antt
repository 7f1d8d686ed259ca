use Rattle.std.proofs.lemmas.Grind.{common_steps}
use Rattle.std.proofs.Common.{ℕ, ◌==◌, List, length, ap, arith, rules, [], sym, ◌∙◌}
use Rattle.wsn_capture.proofs.SplitLines.{empty_is, not_empty}
use Rattle.wsn_capture.proofs.SideSteps.{last_text}
use Rattle.wsn_capture.proofs.side_lines.SideLines.finish.Goals as goal

pub returns-then-not-is_empty : goal.returns-then-not-is_empty
returns-then-not-is_empty c = record {
  left = let old = c.args.self.now in
      c.end_line.ensures.left [] ∙ last_text old.side old.begun c.requires.in_line (not_empty old.begun (ap (λ (bs : List ℕ). length bs == 0) (sym c.line.ensures) ∙ sym c.is_empty.ensures ∙ c.if-not-is_empty.true));
  begun = search rules;
}

pub is_empty-requires : goal.is_empty-requires
is_empty-requires c = search rules

pub end_line-requires : goal.end_line-requires
end_line-requires c = search rules

pub returns-else-not-is_empty-clause-left : goal.returns-else-not-is_empty-clause-left
returns-else-not-is_empty-clause-left c = grind (arith, common_steps)

pub returns-else-not-is_empty-clause-begun : goal.returns-else-not-is_empty-clause-begun
returns-else-not-is_empty-clause-begun c = empty_is c.args.self.now.begun (ap (λ (bs : List ℕ). length bs == 0) (sym c.line.ensures) ∙ sym c.is_empty.ensures ∙ c.if-not-is_empty.false)
