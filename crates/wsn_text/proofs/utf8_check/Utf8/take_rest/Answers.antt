use Rattle.std.proofs.Common.{refl, sym, subst, length, rules, arith}
use Rattle.std.proofs.lemmas.Grind.{common_steps}
use Rattle.wsn_text.specs.Utf8.{IsText}
use Rattle.wsn_text.proofs.Taking.{Shifted, answers_after, takes_text}
use Rattle.wsn_text.proofs.utf8_check.Utf8.take_rest.Goals as goal

pub take_each-requires : goal.take_each-requires
take_each-requires c = search rules

pub split_at-requires : goal.split_at-requires
split_at-requires c = search rules

pub take_each-requires-2 : goal.take_each-requires-2
take_each-requires-2 c = search rules

pub map_err-requires : goal.map_err-requires
map_err-requires c = grind (arith, common_steps)

pub returns : goal.returns
returns c = record {
  steps =
      let old = c.args.self.now in
      let text = c.split_at.result.0.now in
      let shifted : Shifted c.take_each-2.result c.map_err.result (length text) = search rules in
      answers_after old old c.take_each-2.new.self text c.split_at.result.1.now c.args.bytes.now c.take_each-2.result c.map_err.result c.split_at.ensures.by_index.0
      (takes_text old text (λ taken has. (c.if-not-is_whole.ensures taken has).0 refl) (subst IsText (sym c.split_at.ensures.front) c.text_prefix.ensures.text.1)) shifted c.take_each-2.ensures.steps;
  within = search rules;
  good = search rules;
}

pub returns-then-not-is_whole : goal.returns-then-not-is_whole
returns-then-not-is_whole c = record {
  within = search rules;
  steps = search rules;
  good = search rules;
}
