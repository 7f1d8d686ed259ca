-- One event source in a comparison: what a call gives after the events that it has given.
use Rattle.std.proofs.Common.{◌≡◌, ℕ, ◌+◌, ◌<◌, ◌⊎◌, false, None, Some, Result, Ok, Err, IfOk, List, [], ◌∷◌, ◌++◌, length, inl, inr, refl, sym, ap, ◌∙◌, subst, append-nil, arith}
use Rattle.wsn_io.proofs.Received.{received_none, received_on}
use Rattle.wsn_wire.specs.declared.endpoint.Role.{Role}
use Rattle.wsn_io.specs.Transfer.{Incoming, IsReceived}
use Rattle.wsn_rules.specs.declared.verdict.Verdict.{Verdict}
use Rattle.wsn_io.specs.declared.stop.Stop.{Stop}
use Rattle.wsn_rules.specs.declared.without.Without.{Without}
use Rattle.wsn_rules.specs.Limits.{Limits}
use Rattle.wsn_rules.specs.LeftOut.{is_left_out, events_without}
use Rattle.wsn_rules.specs.Meaning.{MeantEvent}
use Rattle.wsn_events.specs.declared.source.Next.TheVariants as nexts
use Rattle.wsn_events.specs.declared.turn.Turn.{Turn}
use Rattle.wsn_events.specs.declared.turn.Turn.TheVariants.{Lent, Own}
use Rattle.wsn_events.specs.EventsMeant.{meant}
use Rattle.wsn_events.specs.Sources.{IsLast}
use Rattle.wsn_events.specs.SourceStates.{SourceState, HasGiven, HasBegunOrEnded, answered, offset_of, frames_of, events_ahead}
use Rattle.wsn_events.specs.LeavingOut.{is_turn_left_out, TakesTurnWithout, ReadsTurn}
use Rattle.wsn_events.specs.LentMessages.{lent_message}
use Rattle.wsn_events.specs.Comparing.{HasStopped}
use Rattle.wsn_events.specs.Turns.{MeantTurn, OfEvent, OfVerdict, IsLawfulTurn, IsNextTurn, GivesEvent, meant_turn}
use Rattle.wsn_events.proofs.GivenSoFar.{begun_sound}
use Rattle.wsn_events.proofs.LeftOut.{passed_over, one_more}
use Rattle.wsn_events.proofs.StandingEvents.{StandsAt, given_stands}

-- A source has not ended, and its input hasn't failed.
abbrev pub IsGoing : {A : Type 0} → Role → Limits → Incoming → SourceState A → List ℕ → List MeantEvent → Type 0
IsGoing role limits now reading came given = HasGiven role limits reading came given × (now.failed ≡ false)

-- It has ended with this verdict, after all of its events.
abbrev pub HasEndedWith : {A : Type 0} → Role → Limits → Incoming → SourceState A → List ℕ → List MeantEvent → Verdict → Type 0
HasEndedWith role limits now reading came given verdict = (answered reading ≡ Some (Ok verdict)) × IsLast role limits now came given (Ok verdict)

-- A source, the bytes that came, and the events that it has given.
pub record HasFollowed {A : Type 0} (role : Role) (limits : Limits) (old now : Incoming) (reading : SourceState A) (came : List ℕ) (given : List MeantEvent) : Type 0 where
  pub received : IsReceived (limits.input + 1) old now came
  pub state : IsGoing role limits now reading came given ⊎ ((verdict : Verdict) × HasEndedWith role limits now reading came given verdict)

-- What a source gave in a round, after the events that are compared so far.
abbrev pub Gives : {A : Type 0} → SourceState A → SourceState A → List MeantEvent → List MeantEvent → MeantTurn → Type 0
Gives old reading given events (OfEvent event) =
    (events ≡ given ++ event ∷ []) × (answered old ≡ None) × (answered reading ≡ None) × (events_ahead reading < events_ahead old)
Gives old reading given events (OfVerdict verdict) = (events ≡ given) × (answered reading ≡ Some (Ok verdict))

-- With a verdict these are all of its events.
abbrev pub IsLastTurn : Role → Limits → Incoming → List ℕ → List MeantEvent → MeantTurn → Type 0
IsLastTurn role limits new came events (OfEvent event) = Unit {0}
IsLastTurn role limits new came events (OfVerdict verdict) = IsLast role limits new came events (Ok verdict)

-- An event comes after those that are left of the events before.
abbrev pub StandsNext : {A : Type 0} → Without → Role → Limits → SourceState A → List ℕ → List MeantEvent → MeantTurn → Type 0
StandsNext without role limits reading came given (OfEvent event) = StandsAt without role limits came (length (events_without without given)) (offset_of reading) event (frames_of reading)
StandsNext without role limits reading came given (OfVerdict verdict) = Unit {0}

-- A round: the source has given its next event that isn't left out, or its verdict.
pub record HasGivenNext {A : Type 0} (without : Without) (role : Role) (limits : Limits) (old new : Incoming) (before reading : SourceState A) (was : List ℕ) (given : List MeantEvent) (turn : MeantTurn) : Type 0 where
  pub came : List ℕ
  pub more : List ℕ
  pub longer : came ≡ was ++ more
  pub events : List MeantEvent
  pub followed : HasFollowed role limits old new reading came events
  pub gives : Gives before reading (events_without without given) (events_without without events) turn
  pub last : IsLastTurn role limits new came events turn
  pub lawful : IsLawfulTurn turn
  pub stands : StandsNext without role limits reading came given turn

module _ (without : Without) (role : Role) (limits : Limits) where
  pub begins : {A : Type 0} (input : Incoming) (reading : SourceState A) → HasGiven role limits reading [] [] → input.failed ≡ false → HasFollowed role limits input input reading [] []
  begins input reading has unfailed = record { received = received_none (limits.input + 1) input; state = inl (has, unfailed) }

  -- a source that is followed has begun or ended, and can be read on
  pub begun : {A : Type 0} (old now : Incoming) (reading : SourceState A) (came : List ℕ) (given : List MeantEvent) → HasFollowed role limits old now reading came given → HasBegunOrEnded reading
  begun old now reading came given followed none = elim followed.state [
    | inl going ↦ begun_sound role limits reading came given going.0
    | inr done ↦ let both : Some (Ok done.0) ≡ None = sym done.1.0 ∙ none in absurd cc
  ]

  pub readable : {A : Type 0} (old now : Incoming) (reading : SourceState A) (came : List ℕ) (given : List MeantEvent) → HasFollowed role limits old now reading came given → answered reading ≡ None → now.failed ≡ false
  readable old now reading came given followed none = grind arith

  -- One call of a source.
  module _ {A : Type 0} (old mid new : Incoming) (before reading : SourceState A) (came : List ℕ) (given : List MeantEvent) (result : Result (Turn A) Stop)
      (followed : HasFollowed role limits old mid before came given) (reads : ReadsTurn without mid new before reading result) where
    next : HasGiven role limits before came given → TakesTurnWithout without role limits mid new reading came given result
    next = reads.next role limits came given

    received : (went : TakesTurnWithout without role limits mid new reading came given result) → IsReceived (limits.input + 1) old new (came ++ went.takes.more)
    received went = received_on (limits.input + 1) old mid new came went.takes.more followed.received went.takes.consumed went.takes.few

    goes_on : HasGiven role limits before came given → (turn : Turn A) → result ≡ Ok turn → HasGivenNext without role limits old new before reading came given (meant_turn reading turn)
    goes_on has (Lent kind) is =
        let went = next has in
        let now = subst (λ (r : Result (Turn A) Stop). IsNextTurn role limits new reading (came ++ went.takes.more) (given ++ went.passed) r) is went.takes.next in
        let lends = now.0 in
        let event = lent_message reading kind in
        record {
          came = came ++ went.takes.more;
          more = went.takes.more;
          longer = refl;
          events = (given ++ went.passed) ++ event ∷ [];
          followed = record { received = received went; state = inl (lends.has, now.1) };
          gives = (one_more without given went.passed event went.left_out refl, has.going, lends.has.going, reads.falls (subst (λ (r : Result (Turn A) Stop). GivesEvent r) (sym is) tt));
          last = tt;
          lawful = lends.lawful;
          stands = record {
            before = lends.before;
            frame = lends.frame;
            lawful = lends.are_lawful;
            rest = lends.rest;
            whole = lends.whole;
            final = lends.final;
            index = sym (ap (λ (es : List MeantEvent). length es) (passed_over without given went.passed went.left_out)) ∙ ap (λ (es : List MeantEvent). length (events_without without es)) lends.first;
            kept = refl;
            is = lends.ended;
            offset_is = lends.offset;
            count_is = lends.count;
          };
        }
    goes_on has (Own (nexts.Event event)) is =
        let went = next has in
        let now = subst (λ (r : Result (Turn A) Stop). IsNextTurn role limits new reading (came ++ went.takes.more) (given ++ went.passed) r) is went.takes.next in
        let kept : is_left_out without (meant event) ≡ false = subst (λ (r : Result (Turn A) Stop). IfOk r (λ (turn : Turn A). is_turn_left_out without turn ≡ false)) is reads.not_left_out in
        record {
          came = came ++ went.takes.more;
          more = went.takes.more;
          longer = refl;
          events = (given ++ went.passed) ++ meant event ∷ [];
          followed = record { received = received went; state = inl (now.0, now.2) };
          gives = (one_more without given went.passed (meant event) went.left_out kept, has.going, now.0.going, reads.falls (subst (λ (r : Result (Turn A) Stop). GivesEvent r) (sym is) tt));
          last = tt;
          lawful = now.1.lawful;
          stands = given_stands without role limits reading (came ++ went.takes.more) given went.passed event now.1 went.left_out kept;
        }
    goes_on has (Own (nexts.Done verdict)) is =
        let went = next has in
        let now = subst (λ (r : Result (Turn A) Stop). IsNextTurn role limits new reading (came ++ went.takes.more) (given ++ went.passed) r) is went.takes.next in
        record {
          came = came ++ went.takes.more;
          more = went.takes.more;
          longer = refl;
          events = given ++ went.passed;
          followed = record { received = received went; state = inr (verdict, (now.1, now.0)) };
          gives = (passed_over without given went.passed went.left_out, now.1);
          last = now.0;
          lawful = tt;
          stands = tt;
        }

    -- a source that is done has read nothing
    same_state : (at : SourceState A) (now : Incoming) → at ≡ before → now ≡ mid → HasFollowed role limits old now at came given
    same_state at now is_at is_now = grind arith

    stays : (verdict : Verdict) → HasEndedWith role limits mid before came given verdict → (turn : Turn A) → result ≡ Ok turn → HasGivenNext without role limits old new before reading came given (meant_turn reading turn)
    stays verdict done (Lent kind) is =
        let both : Ok (Lent kind) ≡ Ok (Own (nexts.Done verdict)) = sym is ∙ (reads.again (Ok verdict) done.0).0 in absurd cc
    stays verdict done (Own (nexts.Event event)) is =
        let both : Ok (Own (nexts.Event event)) ≡ Ok (Own (nexts.Done verdict)) = sym is ∙ (reads.again (Ok verdict) done.0).0 in absurd cc
    stays verdict done (Own (nexts.Done v)) is =
        let reported = reads.again (Ok verdict) done.0 in
        let both : Ok (Own (nexts.Done v)) ≡ Ok (Own (nexts.Done verdict)) = sym is ∙ reported.0 in
        let one : verdict ≡ v = cc in
        let last : IsLast role limits mid came given (Ok v) = subst (λ (w : Verdict). IsLast role limits mid came given (Ok w)) one done.1 in
        record {
          came = came;
          more = [];
          longer = sym (append-nil came);
          events = given;
          followed = same_state reading new reported.1 reported.2;
          gives = (refl, ap (λ (r : SourceState A). answered r) reported.1 ∙ done.0 ∙ ap (λ (w : Verdict). Some (Ok w)) one);
          last = subst (λ (i : Incoming). IsLast role limits i came given (Ok v)) (sym reported.2) last;
          lawful = tt;
          stands = tt;
        }

    pub gives_turn : (turn : Turn A) → result ≡ Ok turn → HasGivenNext without role limits old new before reading came given (meant_turn reading turn)
    gives_turn turn is = elim followed.state [ inl going ↦ goes_on going.0 turn is | inr done ↦ stays done.0 done.1 turn is ]

    pub stops : (stop : Stop) → result ≡ Err stop → (all : List ℕ) × IsReceived (limits.input + 1) old new all × HasStopped role limits new all stop
    stops stop is = elim followed.state [ inl going ↦ halts going.0 | inr done ↦ never done.0 done.1 ]
      where
        halts : HasGiven role limits before came given → (all : List ℕ) × IsReceived (limits.input + 1) old new all × HasStopped role limits new all stop
        halts has =
            let went = next has in
            let now = subst (λ (r : Result (Turn A) Stop). IsNextTurn role limits new reading (came ++ went.takes.more) (given ++ went.passed) r) is went.takes.next in
            (came ++ went.takes.more, received went, (given ++ went.passed, now.0))

        never : (verdict : Verdict) → HasEndedWith role limits mid before came given verdict → (all : List ℕ) × IsReceived (limits.input + 1) old new all × HasStopped role limits new all stop
        never verdict done =
            let both : Err stop ≡ Ok (Own (nexts.Done verdict)) = sym is ∙ (reads.again (Ok verdict) done.0).0 in absurd cc
