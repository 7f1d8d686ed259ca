use Rattle.std.proofs.Common.{rules}
use Rattle.wsn_rules.proofs.closing_handshake.Outcome.of.Goals as goal

pub returns-then-is_ended_early-2 : goal.returns-then-is_ended_early-2
returns-then-is_ended_early-2 c = search rules

pub returns-then-is_closed-4 : goal.returns-then-is_closed-4
returns-then-is_closed-4 c = search rules

pub returns-else-is_closed-4 : goal.returns-else-is_closed-4
returns-else-is_closed-4 c = search rules

pub returns-then-is_refused-2 : goal.returns-then-is_refused-2
returns-then-is_refused-2 c = search rules

pub returns-then-server_ended : goal.returns-then-server_ended
returns-then-server_ended c = search rules

pub returns-else-client_ended : goal.returns-else-client_ended
returns-else-client_ended c = search rules
