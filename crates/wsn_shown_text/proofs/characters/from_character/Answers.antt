use Rattle.std.proofs.Common.{rules, arith}
use Rattle.std.proofs.lemmas.Grind.{common_steps}
use Rattle.wsn_shown_text.proofs.characters.from_character.Goals as goal

pub loop-start-init : goal.loop-start-init
loop-start-init c = search rules

pub bounds-bytes-start : goal.bounds-bytes-start
bounds-bytes-start c = search rules

pub slice_bounds-result-count : goal.slice_bounds-result-count
slice_bounds-result-count c = search rules

pub slice_bounds-result-start : goal.slice_bounds-result-start
slice_bounds-result-start c = search rules

pub slice_bounds-result-end : goal.slice_bounds-result-end
slice_bounds-result-end c = search rules

pub returns-then-not-matches : goal.returns-then-not-matches
returns-then-not-matches c = grind (arith, common_steps)

pub loop-start-preserved : goal.loop-start-preserved
loop-start-preserved c = grind (arith, common_steps)

pub returns : goal.returns
returns c = grind (arith, common_steps)
