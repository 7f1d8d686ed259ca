use Rattle.std.proofs.Common.{rules}
use Rattle.wsn_shown_text.proofs.ascii_text.unit_escape.Goals as goal

pub new-line-requires : goal.new-line-requires
new-line-requires c = search rules

pub push-requires : goal.push-requires
push-requires c = search rules

pub overflow_cast-unit : goal.overflow_cast-unit
overflow_cast-unit c = search rules

pub overflow_cast-unit-2 : goal.overflow_cast-unit-2
overflow_cast-unit-2 c = search rules

pub slice_bounds-push_hex-end : goal.slice_bounds-push_hex-end
slice_bounds-push_hex-end c = search rules

pub push_hex-requires : goal.push_hex-requires
push_hex-requires c = search rules

pub returns : goal.returns
returns c = search rules
