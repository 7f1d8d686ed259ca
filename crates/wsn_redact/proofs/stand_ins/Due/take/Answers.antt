use Rattle.std.proofs.Common.{ℕ, ◌∙◌, ◌/◌, ◌%◌, ap, arith}
use Rattle.wsn_redact.specs.Dues.{bytes_in}
use Rattle.wsn_redact.proofs.StandInNumbers.{listed, first_begun, rest_begun, first_due, rest_due}
use Rattle.wsn_redact.proofs.stand_ins.Due.take.Goals as goal
use Rattle.wsn_redact.proofs.stand_ins.Due.take.Goals.{then-self-eq0, else-self-eq0}

pub returns-clause-written : goal.returns-clause-written
returns-clause-written c = elim c.if-self-eq0.branch [
  | then-self-eq0 w ↦ first_begun c.args.self.now.bytes c.if-self-eq0.due c.args.byte c.ranges.byte.fits w.if-self-eq0.true (w.due-is ∙ listed c.args.byte c.ranges.byte.fits)
  | else-self-eq0 w ↦ ap (λ (n : ℕ). n % 256) w.due-is ∙ first_due c.args.self.now.bytes c.args.byte w.if-self-eq0.false
]

pub returns-clause-due : goal.returns-clause-due
returns-clause-due c = elim c.if-self-eq0.branch [
  | then-self-eq0 w ↦ rest_begun c.args.self.now.bytes c.if-self-eq0.due c.args.byte c.ranges.byte.fits w.if-self-eq0.true (w.due-is ∙ listed c.args.byte c.ranges.byte.fits)
  | else-self-eq0 w ↦ ap (λ (n : ℕ). bytes_in 4 (n / 256)) w.due-is ∙ rest_due c.args.self.now.bytes c.args.byte w.if-self-eq0.false (omega arith)
]
