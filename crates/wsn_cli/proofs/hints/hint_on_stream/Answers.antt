use Rattle.std.proofs.Common.{ℕ, List, take, subst}
use Rattle.wsn_rules.specs.Limits.{Limits}
use Rattle.wsn_hint.specs.Hints.{HintFits}
use Rattle.wsn_cli.specs.Requests.{job_limits}
use Rattle.wsn_cli.proofs.hints.hint_on_stream.Goals as goal

pub returns-clause-fits : goal.returns-clause-fits
returns-clause-fits g c =
    let hint = c.in_ok-hint.hint in
    let first = take 16 c.args.first.now in
    let limits = job_limits c.args.job.now in
    c.suited_to.ensures limits first
    (subst (λ (l : Limits). HintFits l first hint) c.limits_of.ensures
    (subst (λ (bytes : List ℕ). HintFits c.limits_of.result bytes hint) c.mark_of.ensures c.in_ok-hint.ensures.fits))
