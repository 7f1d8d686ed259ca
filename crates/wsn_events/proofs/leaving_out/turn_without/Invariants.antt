use Rattle.std.proofs.Common.{◌≡◌, ℕ, ◌≤◌, false, None, Some, Result, List}
use Rattle.wsn_wire.specs.declared.endpoint.Role.{Role}
use Rattle.wsn_io.specs.declared.stop.Stop.{Stop}
use Rattle.wsn_rules.specs.declared.verdict.Verdict.{Verdict}
use Rattle.wsn_rules.specs.Limits.{Limits}
use Rattle.wsn_rules.specs.Meaning.{MeantEvent}
use Rattle.wsn_events.specs.SourceStates.{HasGiven, HasBegunOrEnded, answered, events_ahead}
use Rattle.wsn_events.proofs.PassedOver.{HasPassed}
use Rattle.wsn_events.proofs.leaving_out.turn_without.Given as goal

-- The call has passed over events that are left out, or none; a source that has ended is as it was.
abbrev pub invariant-loop-without : goal.invariant-loop-without
invariant-loop-without g l = record {
  read : (role : Role) (limits : Limits) (came : List ℕ) (given : List MeantEvent) → HasGiven role limits l.fn.source came given → HasPassed l.without role limits l.fn.input l.input l.source came given;
  begun : HasBegunOrEnded l.source;
  readable : answered l.source ≡ None → l.input.failed ≡ false;
  left : events_ahead l.source ≤ events_ahead l.fn.source;
  again : (answer : Result Verdict Stop) → answered l.fn.source ≡ Some answer → (l.source ≡ l.fn.source) × (l.input ≡ l.fn.input);
}

abbrev pub decreases-loop-without : goal.decreases-loop-without
decreases-loop-without g l = events_ahead l.source
