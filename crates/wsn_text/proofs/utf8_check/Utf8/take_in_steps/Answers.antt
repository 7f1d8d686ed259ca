use Rattle.std.proofs.Common.{◌≡◌, Err, length, rules, ap, ◌∙◌, arith}
use Rattle.std.proofs.lemmas.Grind.{common_steps}
use Rattle.std.proofs.lemmas.Result.{err_from_is_err_and}
use Rattle.wsn_text.proofs.Taking.{Shifted, answers_after, answers_before}
use Rattle.wsn_text.proofs.utf8_check.Utf8.take_in_steps.Goals as goal

pub split_at-requires : goal.split_at-requires
split_at-requires c = search rules

pub same-self : goal.same-self
same-self c = search rules

pub take_each-requires : goal.take_each-requires
take_each-requires c = search rules

pub take_rest-requires : goal.take_rest-requires
take_rest-requires c = search rules

pub map_err-requires : goal.map_err-requires
map_err-requires c = grind (arith, common_steps)

pub returns : goal.returns
returns c = record {
  -- The unfinished character is completed, and the other bytes follow.
  steps =
      let shifted : Shifted c.take_rest.result c.map_err.result (length c.split_at.result.0.now) = search rules in
      answers_after c.args.self.now c.take_each.new.self c.take_rest.new.self c.split_at.result.0.now c.split_at.result.1.now c.args.chunk.now c.take_rest.result c.map_err.result c.split_at.ensures.by_index.0
      c.in_ok-take_each.ensures.steps shifted c.take_rest.ensures.steps;
  within = search rules;
  good = search rules;
}

pub returns-in_err-take_each : goal.returns-in_err-take_each
returns-in_err-take_each c = record {
  -- The unfinished character breaks.
  steps =
      let out = err_from_is_err_and c.from_residual.result c.from_residual.ensures.1 in
      let is : c.from_residual.result ≡ Err c.in_err-take_each.field-0.0 = out.1 ∙ ap Err out.2 in
      answers_before c.args.self.now c.take_each.new.self c.split_at.result.0.now c.split_at.result.1.now c.args.chunk.now c.from_residual.result c.in_err-take_each.field-0.0 c.split_at.ensures.by_index.0 is c.in_err-take_each.ensures.steps;
  within = search rules;
  good = search rules;
}
