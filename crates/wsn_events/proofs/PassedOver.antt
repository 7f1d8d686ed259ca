-- A call that passes over the events that are left out.
use Rattle.std.proofs.Common.{◌≡◌, ℕ, true, false, Option, None, Some, Result, Ok, List, [], ◌∷◌, ◌++◌, refl, sym, ap, ◌∙◌, subst, append_assoc, append-nil, arith}
use Rattle.wsn_wire.specs.declared.endpoint.Role.{Role}
use Rattle.wsn_io.specs.declared.stop.Stop.{Stop}
use Rattle.wsn_io.specs.Transfer.{Incoming, IsConsumed}
use Rattle.wsn_io.proofs.Received.{consumed_none, consumed_on}
use Rattle.wsn_rules.specs.declared.verdict.Verdict.{Verdict}
use Rattle.wsn_rules.specs.declared.without.Without.{Without}
use Rattle.wsn_rules.specs.Limits.{Limits}
use Rattle.wsn_rules.specs.LeftOut.{events_without}
use Rattle.wsn_rules.specs.Meaning.{MeantEvent}
use Rattle.wsn_events.specs.declared.turn.Turn.{Turn}
use Rattle.wsn_events.specs.declared.turn.Turn.TheVariants.{Lent, Own}
use Rattle.wsn_events.specs.declared.source.Next.TheVariants as nexts
use Rattle.wsn_events.specs.EventsMeant.{meant}
use Rattle.wsn_events.specs.SourceStates.{SourceState, HasGiven, IsAtWork, HasBegunOrEnded, answered, next_of}
use Rattle.wsn_events.specs.LeavingOut.{is_turn_left_out, TakesTurnWithout}
use Rattle.wsn_events.specs.LentMessages.{lent_message}
use Rattle.wsn_events.specs.Turns.{IsNextTurn, TakesTurn, GivesEvent, own_turn}
use Rattle.wsn_events.proofs.GivenSoFar.{begun_sound}
use Rattle.wsn_events.proofs.LeftOut.{passed_on}

-- A call has read these bytes more, and passed over these events, which are all left out.
pub record HasPassed {A : Type 0} (without : Without) (role : Role) (limits : Limits) (old new : Incoming) (reading : SourceState A) (came : List ℕ) (given : List MeantEvent) : Type 0 where
  pub more : List ℕ
  pub consumed : IsConsumed old new more
  pub passed : List MeantEvent
  pub left_out : events_without without passed ≡ []
  pub has : HasGiven role limits reading (came ++ more) (given ++ passed)

-- what is left out is an event
pub is_event : {A : Type 0} (without : Without) (turn : Turn A) → is_turn_left_out without turn ≡ true → GivesEvent (Ok turn)
is_event without turn out = grind arith

-- the turn of a source that has ended is no event
pub last_is_none : {A : Type 0} (answer : Result Verdict Stop) (result : Result (Turn A) Stop) → result ≡ own_turn (next_of answer) → GivesEvent result → ⊥
last_is_none {A} answer result is event = grind arith

-- One call of a source.
module _ {A : Type 0} (mid new : Incoming) (before reading : SourceState A) (result : Result (Turn A) Stop)
    (next : (role : Role) (limits : Limits) (came : List ℕ) (given : List MeantEvent) → HasGiven role limits before came given → TakesTurn role limits mid new reading came given result)
    (again : (answer : Result Verdict Stop) → answered before ≡ Some answer → (result ≡ own_turn (next_of answer)) × (reading ≡ before) × (new ≡ mid)) where
  -- after an event the source is at work, and its input hasn't failed
  pub event_after : HasBegunOrEnded before → GivesEvent result → IsAtWork reading × (new.failed ≡ false)
  event_after begun is = by (answered before) refl
    where
      given_next : (role : Role) (limits : Limits) (came : List ℕ) (given : List MeantEvent) (r : Result (Turn A) Stop) → TakesTurn role limits mid new reading came given r → GivesEvent r → IsAtWork reading × (new.failed ≡ false)
      given_next role limits came given (Ok (Lent kind)) on some = (begun_sound role limits reading (came ++ on.more) (given ++ lent_message reading kind ∷ []) on.next.0.has, on.next.1)
      given_next role limits came given (Ok (Own (nexts.Event event))) on some = (begun_sound role limits reading (came ++ on.more) (given ++ meant event ∷ []) on.next.0, on.next.2)
      given_next role limits came given _ on some = absurd some

      by : (a : Option (Result Verdict Stop)) → answered before ≡ a → IsAtWork reading × (new.failed ≡ false)
      by None none = let b = begun none in given_next b.role b.limits b.came b.given result (next b.role b.limits b.came b.given b.has) is
      by (Some answer) some = absurd (last_is_none answer result (again answer some).0 is)

  -- a source that has ended stays as it was
  pub stays_ended : (first : SourceState A) (old : Incoming) (final : Result (Turn A) Stop) → result ≡ final → (answer : Result Verdict Stop) → answered first ≡ Some answer → (before ≡ first) × (mid ≡ old)
      → (final ≡ own_turn (next_of answer)) × (reading ≡ first) × (new ≡ old)
  stays_ended first old final is answer ended same =
      let still = again answer (ap (λ (r : SourceState A). answered r) same.0 ∙ ended) in
      (sym is ∙ still.0, still.1 ∙ same.0, still.2 ∙ same.1)

  -- a source that has ended gives no event
  pub never_ended : (first : SourceState A) (old : Incoming) → GivesEvent result → (answer : Result Verdict Stop) → answered first ≡ Some answer → (before ≡ first) × (mid ≡ old) → (reading ≡ first) × (new ≡ old)
  never_ended first old is answer ended same =
      absurd (last_is_none answer result (again answer (ap (λ (r : SourceState A). answered r) same.0 ∙ ended)).0 is)

module _ {A : Type 0} (without : Without) (role : Role) (limits : Limits) (old : Incoming) (came : List ℕ) (given : List MeantEvent) where
  pub passed_none : (reading : SourceState A) → HasGiven role limits reading came given → HasPassed without role limits old old reading came given
  passed_none reading has = record {
    more = [];
    consumed = consumed_none old;
    passed = [];
    left_out = refl;
    has = subst (λ (bs : List ℕ). HasGiven role limits reading bs (given ++ [])) (sym (append-nil came)) (subst (λ (es : List MeantEvent). HasGiven role limits reading came es) (sym (append-nil given)) has);
  }

  -- The source was called once more.
  module _ (mid new : Incoming) (before reading : SourceState A) (read : HasPassed without role limits old mid before came given) (result : Result (Turn A) Stop)
      (on : TakesTurn role limits mid new reading (came ++ read.more) (given ++ read.passed) result) where
    all : (came ++ read.more) ++ on.more ≡ came ++ (read.more ++ on.more)
    all = append_assoc came read.more on.more

    consumed : IsConsumed old new (read.more ++ on.more)
    consumed = consumed_on old mid new read.more on.more read.consumed on.consumed

    -- its turn isn't left out
    goes_on : TakesTurnWithout without role limits old new reading came given result
    goes_on = grind (arith, consumed, all)

    pub returns : (final : Result (Turn A) Stop) → result ≡ final → TakesTurnWithout without role limits old new reading came given final
    returns final is = subst (λ (r : Result (Turn A) Stop). TakesTurnWithout without role limits old new reading came given r) is goes_on

    -- its turn is an event that is left out
    pub passes : (turn : Turn A) → result ≡ Ok turn → is_turn_left_out without turn ≡ true → HasPassed without role limits old new reading came given
    passes (Own (nexts.Event event)) is out =
        let now = subst (λ (r : Result (Turn A) Stop). IsNextTurn role limits new reading ((came ++ read.more) ++ on.more) (given ++ read.passed) r) is on.next in
        record {
          more = read.more ++ on.more;
          consumed = consumed;
          passed = read.passed ++ meant event ∷ [];
          left_out = passed_on without read.passed (meant event) read.left_out out;
          has = subst (λ (bs : List ℕ). HasGiven role limits reading bs (given ++ (read.passed ++ meant event ∷ []))) all
              (subst (λ (es : List MeantEvent). HasGiven role limits reading ((came ++ read.more) ++ on.more) es) (append_assoc given read.passed (meant event ∷ [])) now.0);
        }
    passes _ is out = absurd cc
