use Rattle.std.proofs.Common.{rules}
use Rattle.wsn_parts.proofs.event_at.is_judged.Goals as goal

pub returns-in-Refused : goal.returns-in-Refused
returns-in-Refused c = search rules
