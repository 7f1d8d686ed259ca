use Rattle.std.proofs.Common.{rules}
use Rattle.wsn_parts.proofs.event_at.EventAt.joined.Goals as goal

pub returns-in_default : goal.returns-in_default
returns-in_default c = search rules
