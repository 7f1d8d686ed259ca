use Rattle.std.proofs.Common.{Err, ◌∙◌, ap, rules}
use Rattle.std.proofs.lemmas.Result.{err_from_is_err_and}
use Rattle.wsn_events.proofs.KeptExcerpts.{stopped_at, answered_with}
use Rattle.wsn_rules.specs.LeftOut.{events_without}
use Rattle.wsn_events.proofs.WholeComparisons.{whole_comparison}
use Rattle.wsn_events.proofs.comparing.same_without.Goals as goal

pub contrast-requires : goal.contrast-requires
contrast-requires g c = record { first = search rules; second = search rules }

pub returns-in_err-compared : goal.returns-in_err-compared
returns-in_err-compared g c = record {
  compared = let out = err_from_is_err_and c.from_residual.result c.from_residual.ensures.1 in
      let is = out.1 ∙ ap Err out.2 in
      stopped_at c.args.without c.args.role c.args.limits c.args.first.now c.contrast.new.first c.args.second.now c.contrast.new.second c.contrast.result c.contrast.ensures c.in_err-compared.field-0.0 c.in_err-compared.was c.from_residual.result is;
  whole = search rules;
}

pub returns-clause-compared : goal.returns-clause-compared
returns-clause-compared g c =
    answered_with c.args.without c.args.role c.args.limits c.args.first.now c.contrast.new.first c.args.second.now c.contrast.new.second c.contrast.result c.contrast.ensures (c.in_ok-compared.compared, c.in_ok-compared._difference) c.in_ok-compared.was

pub returns-clause-whole : goal.returns-clause-whole
returns-clause-whole g c =
    whole_comparison c.args.role c.args.limits (events_without c.args.without) c.args.first.now c.contrast.new.first c.args.second.now c.contrast.new.second c.in_ok-compared.compared (returns-clause-compared g c)
