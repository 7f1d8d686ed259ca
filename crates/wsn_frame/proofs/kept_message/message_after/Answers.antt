use Rattle.std.proofs.Common.{rules}
use Rattle.wsn_frame.proofs.kept_message.message_after.Goals as goal

pub returns-in-Close : goal.returns-in-Close
returns-in-Close c = search rules

pub returns-else-head : goal.returns-else-head
returns-else-head c = search rules

pub returns-then-head : goal.returns-then-head
returns-then-head c = search rules
