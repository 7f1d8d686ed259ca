use Rattle.std.proofs.Common.{ℕ, List, get_or, ap, ◌∙◌, arith}
use Rattle.wsn_print.proofs.PlainStarts.{next_within, next_at_end}
use Rattle.wsn_print.proofs.escapes.next_bytes.Goals as goal
use Rattle.wsn_print.proofs.escapes.next_bytes.Goals.{then-text-gt-BLOCK, else-text-gt-BLOCK}

pub returns-clause-next : goal.returns-clause-next
returns-clause-next c = λ i below. elim c.if-text-gt-BLOCK.branch [
  | then-text-gt-BLOCK w ↦
      ap (λ (xs : List ℕ). get_or xs i 0) w.result-is ∙ next_within c.args.text.now i below
  | else-text-gt-BLOCK w ↦
      ap (λ (xs : List ℕ). get_or xs i 0) w.result-is ∙ next_at_end c.args.text.now i (omega (arith, c.requires)) below
]
