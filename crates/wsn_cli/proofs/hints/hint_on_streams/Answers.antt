use Rattle.std.proofs.Common.{ℕ, List, Option, take, subst}
use Rattle.std.specs.Prelude.{IfSome}
use Rattle.wsn_hint.specs.declared.hint.Hint.{Hint}
use Rattle.wsn_hint.specs.Hints.{HintFits}
use Rattle.wsn_cli.proofs.hints.hint_on_streams.Goals as goal

pub returns-in-Some-clause-fits : goal.returns-in-Some-clause-fits
returns-in-Some-clause-fits c =
    let limits = c.args.comparison.limits in
    let fits = subst (λ (bytes : List ℕ). IfSome c.hint_of.result (HintFits limits bytes)) c.mark_of.ensures c.hint_of.ensures.fits in
    rw c.looks.ensures (subst (λ (o : Option Hint). IfSome o (HintFits limits (take 16 c.args.first.now))) c.in-Some.is fits)

pub returns-clause-fits : goal.returns-clause-fits
returns-clause-fits c =
    rw c.looks-2.ensures (subst (λ (bytes : List ℕ). HintFits c.args.comparison.limits bytes c.in_ok-hint.hint) c.mark_of-2.ensures c.in_ok-hint.ensures.fits)
