use Rattle.std.proofs.Common.{rules, take, Option, Some, ap, ◌∙◌, subst}
use Rattle.std.specs.Prelude.{IfSome}
use Rattle.wsn_rules.specs.declared.verdict.Verdict.{Verdict}
use Rattle.wsn_rules.specs.declared.verdict.Verdict.TheVariants.{Accepted}
use Rattle.wsn_hint.specs.Hints.{IsVerdictOnBytes}
use Rattle.wsn_hint.proofs.EarlyVerdicts.{accepted_unrefused, cut_unrefused}
use Rattle.wsn_hint.proofs.early_verdict.is_lawful_start.Goals as goal

pub returns-in-Some-Accepted-clause-unrefused : goal.returns-in-Some-Accepted-clause-unrefused
returns-in-Some-Accepted-clause-unrefused c = λ true_is fs offset reason refused.
    let has : IsVerdictOnBytes c.args.role c.args.limits (take 2 c.args.first.now) (Accepted c.in-Some-Accepted._summary) = search rules in
    accepted_unrefused c.args.role c.args.limits (take 2 c.args.first.now) c.in-Some-Accepted._summary has fs offset reason refused

pub returns-in-Some-Cut-clause-unrefused : goal.returns-in-Some-Cut-clause-unrefused
returns-in-Some-Cut-clause-unrefused c = λ true_is fs offset reason refused.
    let bytes = take 2 c.args.first.now in
    let has = subst (λ (v : Option Verdict). IfSome v (IsVerdictOnBytes c.args.role c.args.limits bytes)) (c.in-Some-Cut.is ∙ ap (λ (v : Verdict). Some v) c.in-Some-Cut.field-0-is) c.early_verdict.ensures.verdict in
    cut_unrefused c.args.role c.args.limits bytes c.in-Some-Cut._summary has fs offset reason refused

pub returns-in-Some-Refused-clause-given : goal.returns-in-Some-Refused-clause-given
returns-in-Some-Refused-clause-given c = λ some unrefused.
    let bytes = take 2 c.args.first.now in
    let refusal = c.in-Some-Refused._refusal in
    let has = subst (λ (v : Option Verdict). IfSome v (IsVerdictOnBytes c.args.role c.args.limits bytes)) (c.in-Some-Refused.is ∙ ap (λ (v : Verdict). Some v) c.in-Some-Refused.field-0-is) c.early_verdict.ensures.verdict in
    absurd (unrefused has.0 refusal.offset refusal.reason has.1)

pub returns-in-Some-Refused-clause-unrefused : goal.returns-in-Some-Refused-clause-unrefused
returns-in-Some-Refused-clause-unrefused c = search rules
