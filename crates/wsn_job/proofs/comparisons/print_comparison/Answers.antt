use Rattle.std.proofs.Common.{◌≡◌, Result, Ok, Err, Option, ◌∙◌, ap, sym, subst, refl, rules}
use Rattle.std.proofs.lemmas.Result.{err_from_is_err_and}
use Rattle.wsn_io.specs.declared.stop.Stop.{Stop}
use Rattle.wsn_rules.specs.declared.compared.Compared.{Compared}
use Rattle.wsn_events.specs.declared.first_difference.FirstDifference.{FirstDifference}
use Rattle.wsn_events.specs.Excerpts.{IsContrasted}
use Rattle.wsn_events.proofs.KeptExcerpts.{stopped_at}
use Rattle.wsn_job.specs.Comparisons.{compared_channels, IsComparisonPrinted}
use Rattle.wsn_job.proofs.AnswerTexts.{stop_printed}
use Rattle.wsn_job.proofs.comparisons.print_comparison.Goals as goal

pub contrast-requires : goal.contrast-requires
contrast-requires g c = record { first = search rules; second = search rules }

pub returns-in_err-compared : goal.returns-in_err-compared
returns-in_err-compared g c =
    let how = c.args.comparison in
    let before = compared_channels c.args.streams.now.first c.args.streams.now.second c.args.output.now in
    let after = compared_channels c.contrast.new.first c.contrast.new.second c.args.output.now in
    let stopped = c.in_err-compared.field-0.0 in
    let out = err_from_is_err_and c.from_residual.result c.from_residual.ensures.1 in
    subst (λ (r : Result Compared Stop). IsComparisonPrinted how before after r) (sym (out.1 ∙ ap Err out.2))
    (stop_printed how before after stopped
    (stopped_at how.without how.role how.limits c.args.streams.now.first c.contrast.new.first c.args.streams.now.second c.contrast.new.second c.contrast.result c.contrast.ensures stopped c.in_err-compared.was (Err stopped) refl) refl)

pub put_answer-requires : goal.put_answer-requires
put_answer-requires g c = search rules

pub returns-in_err-put_answer : goal.returns-in_err-put_answer
returns-in_err-put_answer g c =
    let how = c.args.comparison in
    let before = compared_channels c.args.streams.now.first c.args.streams.now.second c.args.output.now in
    let after = compared_channels c.contrast.new.first c.contrast.new.second c.put_answer.new.output in
    let whole =
    subst (λ (r : Result (Compared × Option FirstDifference) Stop). IsContrasted how.without how.role how.limits c.args.streams.now.first c.contrast.new.first c.args.streams.now.second c.contrast.new.second r) c.in_ok-compared.was c.contrast.ensures in
    let put = c.in_err-put_answer.ensures whole.compared.came whole.compared.other_came whole.excerpts in
    let out = err_from_is_err_and c.from_residual-in_err-put_answer.result c.from_residual-in_err-put_answer.ensures.1 in
    subst (λ (r : Result Compared Stop). IsComparisonPrinted how before after r) (sym ((out.1 ∙ ap Err out.2) ∙ ap Err put.2.0))
    (c.in_ok-compared.compared, whole.compared, put.0, put.1, put.2.1)

pub returns : goal.returns
returns g c =
    let how = c.args.comparison in
    let whole =
    subst (λ (r : Result (Compared × Option FirstDifference) Stop). IsContrasted how.without how.role how.limits c.args.streams.now.first c.contrast.new.first c.args.streams.now.second c.contrast.new.second r) c.in_ok-compared.was c.contrast.ensures in
    let put = c.in_ok-put_answer.ensures whole.compared.came whole.compared.other_came whole.excerpts in
    (whole.compared, put.0, put.1, put.2)
