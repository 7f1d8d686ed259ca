use Rattle.std.proofs.Common.{sym, subst}
use Rattle.wsn_rules.specs.declared.verdict.Verdict.{Verdict}
use Rattle.wsn_rules.specs.Verdict.{IsVerdict}
use Rattle.wsn_capture.specs.CloseLines.{IsClosedBy}
use Rattle.wsn_capture.proofs.ClosingLines.{accepted_closed, cut_unclosed}
use Rattle.wsn_capture.proofs.capture_lines.has_close.Goals as goal

pub returns-in-Accepted : goal.returns-in-Accepted
returns-in-Accepted c = λ role limits came found.
    let accepted = subst (λ (v : Verdict). IsVerdict role limits came found.0 v) c.in-Accepted.is found.1 in
    subst (IsClosedBy role limits came) (sym c.is_some.ensures) (accepted_closed role limits came found.0 c.in-Accepted.summary accepted)

pub returns-in-Cut-2 : goal.returns-in-Cut-2
returns-in-Cut-2 c = λ role limits came found.
    cut_unclosed role limits came found.0 c.args.verdict.now found.1 c.in-Cut.is

pub returns-in-Cut : goal.returns-in-Cut
returns-in-Cut c = λ role limits came found.
    cut_unclosed role limits came found.0 c.args.verdict.now found.1 c.in-Cut.is
