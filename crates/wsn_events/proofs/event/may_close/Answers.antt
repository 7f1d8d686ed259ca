use Rattle.std.proofs.Common.{rules}
use Rattle.wsn_events.proofs.event.may_close.Goals as goal

pub returns-else-code_allowed : goal.returns-else-code_allowed
returns-else-code_allowed c = search rules
