use Rattle.std.proofs.Common.{rules}
use Rattle.wsn_events.proofs.normal_form.control_of.Goals as goal

pub returns-in-Pong : goal.returns-in-Pong
returns-in-Pong g c = search rules

pub unreachable-requires : goal.unreachable-requires
unreachable-requires g c = search rules

pub unreachable-unreachable : goal.unreachable-unreachable
unreachable-unreachable g c = search rules

pub deref-requires : goal.deref-requires
deref-requires g c = search rules

pub small_of-requires : goal.small_of-requires
small_of-requires g c = search rules

pub deref-requires-in-Pong : goal.deref-requires-in-Pong
deref-requires-in-Pong g c = search rules

pub small_of-requires-in-Pong : goal.small_of-requires-in-Pong
small_of-requires-in-Pong g c = search rules

pub body_of_close-requires : goal.body_of_close-requires
body_of_close-requires g c = search rules

pub returns-in-Ping : goal.returns-in-Ping
returns-in-Ping g c = search rules

pub returns-in-Close : goal.returns-in-Close
returns-in-Close g c = search rules
