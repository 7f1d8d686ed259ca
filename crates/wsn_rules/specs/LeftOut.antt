-- What is left of a stream's events if controls of some kinds are left out.
use Rattle.std.specs.Prelude.{Bool, false, not, List}
use Rattle.std.specs.List.{filter}
use Rattle.wsn_wire.specs.declared.opcode.Op.TheVariants.{Close, Ping, Pong}
use Rattle.wsn_rules.specs.declared.without.Without.{Without}
use Rattle.wsn_rules.specs.Meaning.{MeantEvent, Control}

-- Whether the event is a ping, a pong or a Close, and its kind is left out.
abbrev pub is_left_out : Without → MeantEvent → Bool
is_left_out without (Control Ping body) = without.ping
is_left_out without (Control Pong body) = without.pong
is_left_out without (Control Close body) = without.close
is_left_out without event = false

-- The events without those that are left out, in order.
abbrev pub events_without : Without → List MeantEvent → List MeantEvent
events_without without events = filter (λ event. not (is_left_out without event)) events
