use Rattle.std.proofs.Common.{arith, rules}
use Rattle.std.proofs.lemmas.Grind.{common_steps}
use Rattle.wsn_capture.proofs.line_form.decode.Goals as goal

pub returns : goal.returns
returns c = grind (arith, common_steps)

pub returns-then-count-eq0 : goal.returns-then-count-eq0
returns-then-count-eq0 c = grind (arith, common_steps)

pub slice_bounds-decode_pairs-end : goal.slice_bounds-decode_pairs-end
slice_bounds-decode_pairs-end c = search rules

pub slice_bounds-decode_pairs-end-2 : goal.slice_bounds-decode_pairs-end-2
slice_bounds-decode_pairs-end-2 c = search rules

pub decode_pairs-requires : goal.decode_pairs-requires
decode_pairs-requires c = search rules

pub returns-then-not-decode_pairs : goal.returns-then-not-decode_pairs
returns-then-not-decode_pairs c = search rules
