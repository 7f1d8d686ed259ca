-- What an event source gives if controls of some kinds are left out.
use Rattle.std.specs.Prelude.{◌≡◌, ℕ, ◌<◌, Bool, false, Some, Result, IfOk, List, [], ◌++◌}
use Rattle.wsn_wire.specs.declared.endpoint.Role.{Role}
use Rattle.wsn_io.specs.declared.stop.Stop.{Stop}
use Rattle.wsn_io.specs.Transfer.{Incoming}
use Rattle.wsn_rules.specs.declared.verdict.Verdict.{Verdict}
use Rattle.wsn_rules.specs.declared.without.Without.{Without}
use Rattle.wsn_rules.specs.Limits.{Limits}
use Rattle.wsn_rules.specs.LeftOut.{is_left_out, events_without}
use Rattle.wsn_rules.specs.Meaning.{MeantEvent}
use Rattle.wsn_events.specs.declared.source.Next.TheVariants as nexts
use Rattle.wsn_events.specs.declared.turn.Turn.{Turn}
use Rattle.wsn_events.specs.declared.turn.Turn.TheVariants as turns
use Rattle.wsn_events.specs.EventsMeant.{meant}
use Rattle.wsn_events.specs.SourceStates.{SourceState, HasGiven, answered, events_ahead, next_of}
use Rattle.wsn_events.specs.Turns.{TakesTurn, GivesEvent, own_turn}

-- Whether it is an event that is left out.
abbrev pub is_turn_left_out : {A : Type 0} → Without → Turn A → Bool
is_turn_left_out without (turns.Lent kind) = false
is_turn_left_out without (turns.Own (nexts.Event event)) = is_left_out without (meant event)
is_turn_left_out without (turns.Own (nexts.Done verdict)) = false

-- A call has passed over these events, which are all left out, and its turn is right after them.
pub record TakesTurnWithout {A : Type 0} (without : Without) (role : Role) (limits : Limits) (old new : Incoming)
    (reading : SourceState A) (came : List ℕ) (given : List MeantEvent) (result : Result (Turn A) Stop) : Type 0 where
  pub passed : List MeantEvent
  pub left_out : events_without without passed ≡ []
  pub takes : TakesTurn role limits old new reading came (given ++ passed) result

-- What a call of `turn_without` does: whatever the source has given, it goes on to the next event that isn't left out. A
-- source that has ended stays as it is.
pub record ReadsTurn {A : Type 0} (without : Without) (old new : Incoming) (before reading : SourceState A)
    (result : Result (Turn A) Stop) : Type 0 where
  pub next : (role : Role) (limits : Limits) (came : List ℕ) (given : List MeantEvent) →
      HasGiven role limits before came given
      → TakesTurnWithout without role limits old new reading came given result
  pub not_left_out : IfOk result (λ turn. is_turn_left_out without turn ≡ false)
  pub falls : GivesEvent result → events_ahead reading < events_ahead before
  pub again : (answer : Result Verdict Stop) → answered before ≡ Some answer →
      (result ≡ own_turn (next_of answer)) × (reading ≡ before) × (new ≡ old)
