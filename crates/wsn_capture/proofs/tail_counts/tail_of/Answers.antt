use Rattle.std.proofs.Common.{refl, inr, subst}
use Rattle.wsn_rules.specs.declared.verdict.Verdict.{Verdict}
use Rattle.wsn_rules.specs.Verdict.{IsVerdict}
use Rattle.wsn_capture.proofs.ClosingLines.{cut_unclosed}
use Rattle.wsn_capture.proofs.TailCounts.{accepted_tail}
use Rattle.wsn_capture.proofs.tail_counts.tail_of.Goals as goal

pub returns-in-Accepted : goal.returns-in-Accepted
returns-in-Accepted c = λ role limits came is.
    accepted_tail role limits came is.0 c.in-Accepted.summary
    (subst (λ (v : Verdict). IsVerdict role limits came is.0 v) c.in-Accepted.is is.1)

pub returns-in-Cut : goal.returns-in-Cut
returns-in-Cut c = λ role limits came is.
    inr (cut_unclosed role limits came is.0 c.args.verdict.now is.1 c.in-Cut.is, refl)

pub returns-in-Cut-2 : goal.returns-in-Cut-2
returns-in-Cut-2 c = λ role limits came is.
    inr (cut_unclosed role limits came is.0 c.args.verdict.now is.1 c.in-Cut.is, refl)
