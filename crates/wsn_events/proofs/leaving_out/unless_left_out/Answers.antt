use Rattle.std.proofs.Common.{rules}
use Rattle.wsn_events.proofs.leaving_out.unless_left_out.Goals as goal

pub returns-then-is_left_out : goal.returns-then-is_left_out
returns-then-is_left_out g c = search rules

pub returns : goal.returns
returns g c = search rules
