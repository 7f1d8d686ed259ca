-- What a source gives next, lent or of its own, and what that means.
use Rattle.std.specs.Prelude.{◌≡◌, ℕ, ◌+◌, ◌≤◌, false, Result, Ok, Err, List, ◌++◌, length, ⊤}
use Rattle.wsn_wire.specs.declared.endpoint.Role.{Role}
use Rattle.wsn_io.specs.declared.stop.Stop.{Stop}
use Rattle.wsn_io.specs.Transfer.{Incoming, IsConsumed}
use Rattle.wsn_rules.specs.declared.verdict.Verdict.{Verdict}
use Rattle.wsn_rules.specs.Limits.{Limits}
use Rattle.wsn_rules.specs.LawfulEvents.{IsLawfulEvent}
use Rattle.wsn_rules.specs.Meaning.{MeantEvent}
use Rattle.wsn_events.specs.declared.source.Next.{Next}
use Rattle.wsn_events.specs.declared.source.Next.TheVariants as nexts
use Rattle.wsn_events.specs.declared.turn.LastTurn.{LastTurn}
use Rattle.wsn_events.specs.declared.turn.Turn.{Turn}
use Rattle.wsn_events.specs.declared.turn.Turn.TheVariants as turns
use Rattle.wsn_events.specs.EventsMeant.{meant}
use Rattle.wsn_events.specs.SourceStates.{SourceState, IsNextEvent, IsEvent}
use Rattle.wsn_events.specs.LentMessages.{LendsMessage, lent_message}

-- An event, or the verdict.
pub data MeantTurn : Type 0 where
  OfEvent : MeantEvent → MeantTurn
  OfVerdict : Verdict → MeantTurn

-- what a result of `next` means
abbrev pub meant_next : {A : Type 0} → Next A → MeantTurn
meant_next (nexts.Event event) = OfEvent (meant event)
meant_next (nexts.Done verdict) = OfVerdict verdict

-- what a source's turn means; the source holds the payload of a message that it lends
abbrev pub meant_turn : {A : Type 0} → SourceState A → Turn A → MeantTurn
meant_turn reading (turns.Lent kind) = OfEvent (lent_message reading kind)
meant_turn reading (turns.Own next) = meant_next next

-- what the last turn of a source means
abbrev pub meant_last : {A : Type 0} → LastTurn A → MeantTurn
meant_last last = meant_turn last.source.now last.turn.now

-- An event is lawful.
abbrev pub IsLawfulTurn : MeantTurn → Type 0
IsLawfulTurn (OfEvent event) = IsLawfulEvent event
IsLawfulTurn (OfVerdict verdict) = ⊤

-- the result of `next` as a turn
abbrev pub own_turn : {A : Type 0} → Result (Next A) Stop → Result (Turn A) Stop
own_turn (Ok next) = Ok (turns.Own next)
own_turn (Err halted) = Err halted

-- The turn is an event: neither a verdict nor a stop.
abbrev pub GivesEvent : {A : Type 0} → Result (Turn A) Stop → Type 0
GivesEvent (Ok (turns.Lent kind)) = ⊤
GivesEvent (Ok (turns.Own next)) = IsEvent (Ok next)
GivesEvent (Err halted) = ⊥

-- The turn is right for the bytes that came: a message that the source lends, or what `next` would return.
abbrev pub IsNextTurn : {A : Type 0} → Role → Limits → Incoming → SourceState A → List ℕ → List MeantEvent →
    Result (Turn A) Stop → Type 0
IsNextTurn role limits new reading came given (Ok (turns.Lent kind)) =
    LendsMessage role limits reading came given kind × (new.failed ≡ false)
IsNextTurn role limits new reading came given (Ok (turns.Own next)) =
    IsNextEvent role limits new reading came given (Ok next)
IsNextTurn role limits new reading came given (Err halted) =
    IsNextEvent role limits new reading came given (Err halted)

-- A call has read these bytes more, and its turn is right for all that came: at most one byte past the limit.
pub record TakesTurn {A : Type 0} (role : Role) (limits : Limits) (old new : Incoming) (reading : SourceState A)
    (came : List ℕ) (given : List MeantEvent) (result : Result (Turn A) Stop) : Type 0 where
  pub more : List ℕ
  pub consumed : IsConsumed old new more
  pub few : length (came ++ more) ≤ limits.input + 1
  pub next : IsNextTurn role limits new reading (came ++ more) given result
