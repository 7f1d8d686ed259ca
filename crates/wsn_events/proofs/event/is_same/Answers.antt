use Rattle.std.proofs.Common.{rules}
use Rattle.wsn_events.proofs.event.is_same.Goals as goal

pub returns-then-code-other_code : goal.returns-then-code-other_code
returns-then-code-other_code g c = search rules

pub returns-in-Ping-Ping : goal.returns-in-Ping-Ping
returns-in-Ping-Ping g c = search rules

pub returns-then-eq : goal.returns-then-eq
returns-then-eq g c = search rules

pub returns-else-eq : goal.returns-else-eq
returns-else-eq g c = search rules

pub returns-in-Pong-Pong : goal.returns-in-Pong-Pong
returns-in-Pong-Pong g c = search rules

pub returns-in-Close-None-Close-None : goal.returns-in-Close-None-Close-None
returns-in-Close-None-Close-None g c = search rules

pub returns-else-code-other_code : goal.returns-else-code-other_code
returns-else-code-other_code g c = search rules

pub returns-in_default : goal.returns-in_default
returns-in_default g c = search rules

pub returns-in_default-2 : goal.returns-in_default-2
returns-in_default-2 g c = search rules

pub returns-in_default-3 : goal.returns-in_default-3
returns-in_default-3 g c = search rules

pub returns-in_default-4 : goal.returns-in_default-4
returns-in_default-4 g c = search rules

pub returns-in_default-5 : goal.returns-in_default-5
returns-in_default-5 g c = search rules

pub returns-in_default-6 : goal.returns-in_default-6
returns-in_default-6 g c = search rules

pub returns-in_default-7 : goal.returns-in_default-7
returns-in_default-7 g c = search rules
