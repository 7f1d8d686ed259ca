use Rattle.std.proofs.Common.{take, Option, Some, ap, ◌∙◌, subst, rules}
use Rattle.std.specs.Prelude.{IfSome}
use Rattle.wsn_rules.specs.declared.verdict.Verdict.{Verdict}
use Rattle.wsn_hint.specs.Hints.{IsVerdictOnBytes}
use Rattle.wsn_hint.proofs.EarlyVerdicts.{accepted_unrefused, cut_unrefused}
use Rattle.wsn_hint.proofs.early_verdict.early_refusal.Goals as goal

pub returns-in-Some-Accepted-clause-none : goal.returns-in-Some-Accepted-clause-none
returns-in-Some-Accepted-clause-none c = λ none some.
    let bytes = take 2 c.args.first.now in
    let has = subst (λ (v : Option Verdict). IfSome v (IsVerdictOnBytes c.args.role c.args.limits bytes)) (c.in-Some-Accepted.is ∙ ap (λ (v : Verdict). Some v) c.in-Some-Accepted.field-0-is) c.early_verdict.ensures.verdict in
    accepted_unrefused c.args.role c.args.limits bytes c.in-Some-Accepted._summary has

pub returns-in-Some-Cut-clause-none : goal.returns-in-Some-Cut-clause-none
returns-in-Some-Cut-clause-none c = λ none some.
    let bytes = take 2 c.args.first.now in
    let has = subst (λ (v : Option Verdict). IfSome v (IsVerdictOnBytes c.args.role c.args.limits bytes)) (c.in-Some-Cut.is ∙ ap (λ (v : Verdict). Some v) c.in-Some-Cut.field-0-is) c.early_verdict.ensures.verdict in
    cut_unrefused c.args.role c.args.limits bytes c.in-Some-Cut._summary has

pub returns-in-Some-Refused-clause-none : goal.returns-in-Some-Refused-clause-none
returns-in-Some-Refused-clause-none c = search rules
