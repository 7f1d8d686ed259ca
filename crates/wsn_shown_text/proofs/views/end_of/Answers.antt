use Rattle.std.proofs.Common.{rules, arith}
use Rattle.std.proofs.lemmas.Grind.{common_steps}
use Rattle.wsn_shown_text.proofs.views.end_of.Goals as goal

pub overflow_sub-result : goal.overflow_sub-result
overflow_sub-result c = search rules

pub slice_bounds-result-count : goal.slice_bounds-result-count
slice_bounds-result-count c = search rules

pub slice_bounds-result-start : goal.slice_bounds-result-start
slice_bounds-result-start c = search rules

pub slice_bounds-result-end : goal.slice_bounds-result-end
slice_bounds-result-end c = search rules

pub returns-then-bytes-most : goal.returns-then-bytes-most
returns-then-bytes-most c = search rules

pub returns-else-bytes-most : goal.returns-else-bytes-most
returns-else-bytes-most c = grind (arith, common_steps)
