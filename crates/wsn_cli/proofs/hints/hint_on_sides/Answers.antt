use Rattle.std.proofs.Common.{ℕ, List, Option, take, subst, rules}
use Rattle.std.specs.Prelude.{IfSome}
use Rattle.wsn_hint.specs.declared.hint.Hint.{Hint}
use Rattle.wsn_hint.specs.Hints.{HintFits}
use Rattle.wsn_cli.proofs.hints.hint_on_sides.Goals as goal

pub returns-in-Some-clause-fits : goal.returns-in-Some-clause-fits
returns-in-Some-clause-fits c =
    let limits = c.args.comparison.limits in
    let fits = subst (λ (bytes : List ℕ). IfSome c.capture_hint_of.result (HintFits limits bytes)) c.mark_of.ensures (c.capture_hint_of.ensures.fits limits) in
    rw c.looks.ensures (subst (λ (o : Option Hint). IfSome o (HintFits limits (take 16 c.args.failed.now))) c.in-Some.is fits)

pub returns-in-Some-clause-line : goal.returns-in-Some-clause-line
returns-in-Some-clause-line c = search rules

pub returns-in-None-clause-input : goal.returns-in-None-clause-input
returns-in-None-clause-input c = search rules
