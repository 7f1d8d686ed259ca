use Rattle.std.proofs.Common.{rules}
use Rattle.wsn_events.proofs.payload.Payload.is_text.Goals as goal

pub returns-in-Message-Text-default : goal.returns-in-Message-Text-default
returns-in-Message-Text-default c = search rules

pub returns-in-Message-Binary-default : goal.returns-in-Message-Binary-default
returns-in-Message-Binary-default c = search rules

pub returns-in-Message-Binary-default-2 : goal.returns-in-Message-Binary-default-2
returns-in-Message-Binary-default-2 c = search rules
