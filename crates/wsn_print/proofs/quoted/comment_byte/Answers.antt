use Rattle.std.proofs.Common.{rules}
use Rattle.wsn_print.proofs.quoted.comment_byte.Goals as goal

pub new-line-requires : goal.new-line-requires
new-line-requires c = search rules

pub push_byte-requires : goal.push_byte-requires
push_byte-requires c = search rules

pub push-requires : goal.push-requires
push-requires c = search rules

pub push-requires-in_default : goal.push-requires-in_default
push-requires-in_default c = search rules

pub slice_bounds-push_hex-end : goal.slice_bounds-push_hex-end
slice_bounds-push_hex-end c = search rules

pub push_hex-requires : goal.push_hex-requires
push_hex-requires c = search rules

pub returns-in-92 : goal.returns-in-92
returns-in-92 c = search rules

pub returns-in-32-to-126 : goal.returns-in-32-to-126
returns-in-32-to-126 c = search rules

pub returns-in_default : goal.returns-in_default
returns-in_default c = search rules
