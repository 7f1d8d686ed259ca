use Rattle.std.proofs.Common.{rules}
use Rattle.wsn_parts.proofs.event_at.EventAt.ended.Goals as goal

pub returns-in-Some : goal.returns-in-Some
returns-in-Some c = search rules
