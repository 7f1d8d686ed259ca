use Rattle.std.proofs.Common.{rules}
use Rattle.wsn_events.proofs.comparing.round_of.Goals as goal

pub returns-then-are_equal : goal.returns-then-are_equal
returns-then-are_equal g c = search rules
