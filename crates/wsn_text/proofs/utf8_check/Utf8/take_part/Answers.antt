use Rattle.std.proofs.Common.{◌≡◌, ℕ, ◌↔◌, List, [], ◌∷◌, ◌++◌, Option, Some, length, sym, ◌∙◌, subst, ap, append-nil, eqb-true, arith, rules}
use Rattle.std.proofs.lemmas.Grind.{common_steps}
use Rattle.std.proofs.lemmas.List.{drop_all}
use Rattle.wsn_text.specs.Validated.{Validates, Follows}
use Rattle.wsn_text.specs.Utf8.{Range, IsText}
use Rattle.wsn_text.proofs.Rests.{text-nil}
use Rattle.wsn_text.proofs.Taking.{Shifted, answers_after, takes_end}
use Rattle.wsn_text.proofs.utf8_check.Utf8.take_part.Goals as goal

pub overflow_sub-chunk : goal.overflow_sub-chunk
overflow_sub-chunk c = search rules

pub split_at-requires : goal.split_at-requires
split_at-requires c = search rules

pub same-self : goal.same-self
same-self c = search rules

pub take_in_steps-requires : goal.take_in_steps-requires
take_in_steps-requires c = search rules

pub map_err-requires : goal.map_err-requires
map_err-requires c = grind (arith, common_steps)

pub take_each-requires : goal.take_each-requires
take_each-requires c = ([], text-nil)

pub returns : goal.returns
returns c = record {
  steps =
      let old = c.args.self.now in
      let first = c.first_byte.result in
      let front = c.split_at.result.0.now in
      let same = subst (λ (state : Option (List Range)). (more : List ℕ) → IsText (first ∷ more) ↔ Follows state more) c.self.view_is c.first_byte.ensures in
      let shifted : Shifted c.take_each.result c.map_err.result (length front) = search rules in
      answers_after old (Some []) c.take_each.new.self front c.split_at.result.1.now c.args.chunk.now c.take_each.result c.map_err.result c.split_at.ensures.by_index.0
      (takes_end old first front same (c.is_text_after.ensures c.if-not-is_text_after.false)) shifted c.take_each.ensures.steps;
  within = search rules;
  good = search rules;
}

pub returns-then-is_empty : goal.returns-then-is_empty
returns-then-is_empty c = record {
  within = search rules;
  steps =
      let first = c.first_byte.result in
      let front = c.split_at.result.0.now in
      let back = c.split_at.result.1.now in
      let same = subst (λ (state : Option (List Range)). (more : List ℕ) → IsText (first ∷ more) ↔ Follows state more) c.self.view_is c.first_byte.ensures in
      let none : length back ≡ 0 = eqb-true _ _ (sym c.if-is_empty.ensures) in
      let nothing : back ≡ [] = drop_all 0 back (omega (arith, none)) in
      let all : c.args.chunk.now ≡ front = c.split_at.ensures.by_index.0 ∙ ap (λ (end : List ℕ). front ++ end) nothing ∙ append-nil front in
      subst (Validates c.args.self.now (Some [])) (sym all) (takes_end c.args.self.now first front same (c.is_text_after.ensures c.if-not-is_text_after.false));
  good = search rules;
}

pub returns-then-not-is_text_after : goal.returns-then-not-is_text_after
returns-then-not-is_text_after c = record {
  within = search rules;
  steps = search rules;
  good = search rules;
}
