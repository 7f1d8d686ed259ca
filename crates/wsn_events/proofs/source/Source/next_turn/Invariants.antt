use Rattle.std.proofs.Common.{ℕ, ◌≤◌, List}
use Rattle.wsn_wire.specs.declared.endpoint.Role.{Role}
use Rattle.wsn_rules.specs.Limits.{Limits}
use Rattle.wsn_rules.specs.Meaning.{MeantEvent}
use Rattle.wsn_events.specs.SourceStates.{HasGiven, events_ahead}
use Rattle.wsn_events.proofs.SourceCalls.{HasRead, state_of}
use Rattle.wsn_events.proofs.source.Source.next_turn.Given as goal

-- The call has read these bytes more and given no event yet.
abbrev pub invariant-loop-self : goal.invariant-loop-self
invariant-loop-self g l = record {
  read : (role : Role) (limits : Limits) (came : List ℕ) (given : List MeantEvent) → HasGiven role limits l.fn.self came given → HasRead role limits l.fn.input l.input (state_of l.self-inside) came given;
  left : events_ahead (state_of l.self-inside) ≤ events_ahead l.fn.self;
}

abbrev pub decreases-loop-self : goal.decreases-loop-self
decreases-loop-self g l = events_ahead (state_of l.self-inside)
