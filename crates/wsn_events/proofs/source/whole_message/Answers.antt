use Rattle.std.proofs.Common.{rules}
use Rattle.wsn_events.proofs.source.whole_message.Goals as goal

pub returns-in-Text : goal.returns-in-Text
returns-in-Text c = search rules

pub returns-in-Binary : goal.returns-in-Binary
returns-in-Binary c = search rules
