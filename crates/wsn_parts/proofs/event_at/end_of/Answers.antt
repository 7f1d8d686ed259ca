use Rattle.std.proofs.Common.{rules}
use Rattle.wsn_parts.proofs.event_at.end_of.Goals as goal

pub returns : goal.returns
returns c = search rules
