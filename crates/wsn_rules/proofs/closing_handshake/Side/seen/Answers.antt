use Rattle.std.proofs.Common.{rules}
use Rattle.wsn_rules.proofs.closing_handshake.Side.seen.Goals as goal

pub returns-in-Refused : goal.returns-in-Refused
returns-in-Refused c = search rules

pub returns-in-Refused-2 : goal.returns-in-Refused-2
returns-in-Refused-2 c = search rules

pub returns-in-Refused-3 : goal.returns-in-Refused-3
returns-in-Refused-3 c = search rules

pub returns-in-Closed-Some : goal.returns-in-Closed-Some
returns-in-Closed-Some c = search rules

pub returns-in-Closed-None : goal.returns-in-Closed-None
returns-in-Closed-None c = search rules

pub returns-in-Running : goal.returns-in-Running
returns-in-Running c = search rules
