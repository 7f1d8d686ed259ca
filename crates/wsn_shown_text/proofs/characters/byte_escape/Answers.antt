use Rattle.std.proofs.Common.{rules}
use Rattle.wsn_shown_text.proofs.characters.byte_escape.Goals as goal

pub new-line-requires : goal.new-line-requires
new-line-requires c = search rules

pub push-requires : goal.push-requires
push-requires c = search rules

pub slice_bounds-push_hex-end : goal.slice_bounds-push_hex-end
slice_bounds-push_hex-end c = search rules

pub push_hex-requires : goal.push_hex-requires
push_hex-requires c = search rules

pub returns : goal.returns
returns c = search rules
