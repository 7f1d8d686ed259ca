use Rattle.std.proofs.Common.{rules}
use Rattle.wsn_events.proofs.leaving_out.is_left_out.Goals as goal

pub returns-in-Own-Event-Ping : goal.returns-in-Own-Event-Ping
returns-in-Own-Event-Ping g c = search rules

pub returns-in-Own-Event-Pong : goal.returns-in-Own-Event-Pong
returns-in-Own-Event-Pong g c = search rules

pub returns-in-Own-Event-Close : goal.returns-in-Own-Event-Close
returns-in-Own-Event-Close g c = search rules

pub returns-in-Own-Event-Message : goal.returns-in-Own-Event-Message
returns-in-Own-Event-Message g c = search rules

pub returns-in-Own-Event-Message-2 : goal.returns-in-Own-Event-Message-2
returns-in-Own-Event-Message-2 g c = search rules

pub returns-in-Own-Event-Message-3 : goal.returns-in-Own-Event-Message-3
returns-in-Own-Event-Message-3 g c = search rules
