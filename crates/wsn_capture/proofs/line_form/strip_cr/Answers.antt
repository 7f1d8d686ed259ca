use Rattle.std.proofs.Common.{arith, rules}
use Rattle.std.proofs.lemmas.Grind.{common_steps}
use Rattle.wsn_capture.proofs.LineEnds.{cr_dropped, nothing_dropped}
use Rattle.wsn_capture.proofs.line_form.strip_cr.Goals as goal

pub returns-in-13 : goal.returns-in-13
returns-in-13 c = cr_dropped c.args.line.now c.in-13.len_at_least (omega arith)

pub returns-in_default-2 : goal.returns-in_default-2
returns-in_default-2 c = nothing_dropped c.args.line.now (λ some is. omega arith)

pub overflow_sub-line : goal.overflow_sub-line
overflow_sub-line c = search rules

pub bounds-line-line : goal.bounds-line-line
bounds-line-line c = search rules

pub slice_bounds-front-count : goal.slice_bounds-front-count
slice_bounds-front-count c = search rules

pub slice_bounds-front-length : goal.slice_bounds-front-length
slice_bounds-front-length c = search rules

pub returns-in_default : goal.returns-in_default
returns-in_default c = grind (arith, common_steps)
