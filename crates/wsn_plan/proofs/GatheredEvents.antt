-- All of a stream's events, kept, at each answer of their source.
use Rattle.std.proofs.Common.{◌≡◌, ℕ, ◌+◌, ◌≤◌, Option, Some, IfSome, Result, Ok, Err, false, List, [], ◌∷◌, ◌++◌, length, map, take, append-nil, inr, sym, ap, ◌∙◌, subst, arith}
use Rattle.wsn_io.proofs.Received.{consumed_none, received_none, received_on}
use Rattle.wsn_wire.specs.declared.endpoint.Role.{Role}
use Rattle.wsn_wire.specs.declared.opcode.Kind.{Kind}
use Rattle.wsn_io.specs.Transfer.{Incoming, IsReceived}
use Rattle.wsn_rules.specs.declared.verdict.Verdict.{Verdict}
use Rattle.wsn_rules.specs.Limits.{Limits}
use Rattle.wsn_rules.specs.Meaning.{MeantEvent, meaning}
use Rattle.wsn_io.specs.declared.stop.Stop.{Stop}
use Rattle.wsn_io.specs.declared.stop.Stop.TheVariants as stop
use Rattle.wsn_scan.specs.Positions.{IsTakenOf}
use Rattle.wsn_scan.proofs.ReaderReports.{reported_of}
use Rattle.wsn_events.specs.declared.event.Event.{Event}
use Rattle.wsn_events.specs.declared.source.Next.TheVariants as nexts
use Rattle.wsn_events.specs.EventsMeant.{meant}
use Rattle.wsn_events.specs.declared.turn.Turn.{Turn}
use Rattle.wsn_events.specs.declared.turn.Turn.TheVariants as turns
use Rattle.wsn_events.specs.SourceStates.{SourceState, HasGiven, IsAsBefore}
use Rattle.wsn_events.specs.LentMessages.{LendsMessage, MayLend, lent_message}
use Rattle.wsn_events.specs.Sources.{IsLast}
use Rattle.wsn_events.specs.Turns.{TakesTurn, GivesEvent}
use Rattle.wsn_plan.specs.declared.gathering.Gathered.{Gathered}
use Rattle.wsn_plan.specs.declared.kept.Kept.{Kept}
use Rattle.wsn_plan.specs.Gathering.{kept_meant, HasWholeFrame, IsStoppedAfter, IsGathered}

-- The source has read all that came, and these are the events that it gave.
pub record HasGathered {A B : Type 0} (role : Role) (limits : Limits) (old new : Incoming) (source : SourceState A) (events : List (Kept B)) : Type 0 where
  pub came : List ℕ
  pub has : HasGiven role limits source came (map kept_meant events)
  pub received : IsReceived (limits.input + 1) old new came
  pub readable : new.failed ≡ false

nothing_is_meant : (before : List MeantEvent) (e : MeantEvent) → before ++ e ∷ [] ≡ [] → ⊥
nothing_is_meant [] e is = cc
nothing_is_meant (b ∷ before) e is = cc

-- an event was given: the bytes within the limit have a whole frame
frame_within : {A : Type 0} (role : Role) (limits : Limits) (source : SourceState A) (came : List ℕ) (given : List MeantEvent) (event : MeantEvent) → HasGiven role limits source came (given ++ event ∷ [])
    → HasWholeFrame role limits (take limits.input came)
frame_within role limits source came given event has =
    let is : IsTakenOf role limits came has.frames has.position = reported_of role limits source.reader came has.frames has.position has.has_taken in
    record {
      frames = has.frames;
      lawful = is.lawful;
      some = λ none. nothing_is_meant given event (has.events ∙ ap meaning none);
      rest = is.rest;
      whole = is.whole;
    }

-- a turn that gives an event
pub gives_lent : {A : Type 0} (turn : Turn A) (kind : Kind) → turn ≡ turns.Lent kind → GivesEvent (Ok turn)
gives_lent {A} turn kind is = subst (λ (t : Turn A). GivesEvent (Ok t)) (sym is) tt

pub gives_own : {A : Type 0} (turn : Turn A) (event : Event A) → turn ≡ turns.Own (nexts.Event event) → GivesEvent (Ok turn)
gives_own {A} turn event is = subst (λ (t : Turn A). GivesEvent (Ok t)) (sym is) tt

module _ {A B : Type 0} (role : Role) (limits : Limits) (old : Incoming) where
  pub begins : (source : SourceState A) → HasGiven role limits source [] [] → old.failed ≡ false → HasGathered {B = B} role limits old old source []
  begins source has readable = grind (arith, received_none)

  pub given_back : (mid : Incoming) (source next : SourceState A) (events : List (Kept B)) → IsAsBefore source next → HasGathered role limits old mid source events → HasGathered role limits old mid next events
  given_back mid source next events same gathered = record {
    came = gathered.came;
    has = same.given role limits gathered.came (map kept_meant events) gathered.has;
    received = gathered.received;
    readable = gathered.readable;
  }

  -- nothing has changed
  pub still : (mid : Incoming) (source next : SourceState A) (events : List (Kept B)) → next ≡ source → HasGathered role limits old mid source events → HasGathered role limits old mid next events
  still mid source next events same gathered = subst (λ (s : SourceState A). HasGathered role limits old mid s events) (sym same) gathered

  -- the source lends a message at once
  pub lends_at_once : (mid : Incoming) (source next : SourceState A) (events : List (Kept B)) (gathered : HasGathered role limits old mid source events) (lent : Option Kind) → MayLend source next lent → (kind : Kind) → lent ≡ Some kind
      → TakesTurn role limits mid mid next gathered.came (map kept_meant events) (Ok (turns.Lent kind))
  lends_at_once mid source next events gathered lent may kind is =
      let taken = subst (λ (l : Option Kind). IfSome l (λ k. (r : Role) (b : Limits) (came : List ℕ) (given : List MeantEvent) → HasGiven r b source came given → LendsMessage r b next came given k)) is may.taken in
      let lends = taken role limits gathered.came (map kept_meant events) gathered.has in
      record {
        more = [];
        consumed = consumed_none mid;
        few = subst (λ (bs : List ℕ). length bs ≤ limits.input + 1) (sym (append-nil gathered.came)) gathered.has.has_taken.buffered.few;
        next = (subst (λ (bs : List ℕ). LendsMessage role limits next bs (map kept_meant events) kind) (sym (append-nil gathered.came)) lends, gathered.readable);
      }

  module _ (mid new : Incoming) (source next : SourceState A) (events : List (Kept B)) (gathered : HasGathered role limits old mid source events) where
    -- the source's next turn, after the bytes that had come
    abbrev Answers : Result (Turn A) Stop → Type 0
    Answers result = TakesTurn role limits mid new next gathered.came (map kept_meant events) result

    all_received : (result : Result (Turn A) Stop) (on : Answers result) → IsReceived (limits.input + 1) old new (gathered.came ++ on.more)
    all_received result on = received_on (limits.input + 1) old mid new gathered.came on.more gathered.received on.consumed on.few

    pub is_done : (turn : Turn A) (verdict : Verdict) (all : Gathered A B) → turn ≡ turns.Own (nexts.Done verdict) → all.events.items ≡ events → all.verdict ≡ verdict
        → Answers (Ok turn) → IsGathered role limits old new (Ok all)
    is_done turn verdict all is items same goes = record {
      came = gathered.came ++ on.more;
      received = all_received (Ok (turns.Own (nexts.Done verdict))) on;
      range = gathered.has.has_taken.has_scanned.has_consumed.in_range;
      of_bytes = rw (items, same) on.next.0;
    }
      where
        on : Answers (Ok (turns.Own (nexts.Done verdict)))
        on = subst (λ (t : Turn A). Answers (Ok t)) is goes

    pub is_stopped : (stopped : Stop) → Answers (Err stopped) → IsGathered {A = A} {B = B} role limits old new (Err stopped)
    is_stopped stopped on = record {
      came = gathered.came ++ on.more;
      received = all_received (Err stopped) on;
      range = gathered.has.has_taken.has_scanned.has_consumed.in_range;
      of_bytes = of stopped on.next.0;
    }
      where
        of : (s : Stop) → IsLast role limits new (gathered.came ++ on.more) (map kept_meant events) (Err s) → IsStoppedAfter role limits new (gathered.came ++ on.more) s
        of s last = grind arith

    -- an event was given, which is kept or isn't
    module _ (result : Result (Turn A) Stop) (on : Answers result) (event : MeantEvent) (has : HasGiven role limits next (gathered.came ++ on.more) (map kept_meant events ++ event ∷ [])) (readable : new.failed ≡ false) where
      one_more : (kept : List (Kept B)) → map kept_meant kept ≡ map kept_meant events ++ event ∷ [] → HasGathered role limits old new next kept
      one_more kept more = record {
        came = gathered.came ++ on.more;
        has = subst (λ (given : List MeantEvent). HasGiven role limits next (gathered.came ++ on.more) given) (sym more) has;
        received = all_received result on;
        readable = readable;
      }

      not_kept : IsGathered {A = A} {B = B} role limits old new (Err stop.Memory)
      not_kept = record {
        came = gathered.came ++ on.more;
        received = all_received result on;
        range = gathered.has.has_taken.has_scanned.has_consumed.in_range;
        of_bytes = (inr (frame_within role limits next (gathered.came ++ on.more) (map kept_meant events) event has), readable);
      }

    -- an event of its own
    module _ (turn : Turn A) (event : Event A) (is : turn ≡ turns.Own (nexts.Event event)) (goes : Answers (Ok turn)) where
      on : Answers (Ok (turns.Own (nexts.Event event)))
      on = subst (λ (t : Turn A). Answers (Ok t)) is goes

      pub goes_on : (kept : List (Kept B)) → map kept_meant kept ≡ map kept_meant events ++ meant event ∷ [] → HasGathered role limits old new next kept
      goes_on kept more = one_more (Ok (turns.Own (nexts.Event event))) on (meant event) on.next.0 on.next.2 kept more

      pub no_memory : IsGathered {A = A} {B = B} role limits old new (Err stop.Memory)
      no_memory = not_kept (Ok (turns.Own (nexts.Event event))) on (meant event) on.next.0 on.next.2

    -- a message that the source lends
    module _ (turn : Turn A) (kind : Kind) (is : turn ≡ turns.Lent kind) (goes : Answers (Ok turn)) where
      lends : Answers (Ok (turns.Lent kind))
      lends = subst (λ (t : Turn A). Answers (Ok t)) is goes

      pub goes_on_lent : (kept : List (Kept B)) → map kept_meant kept ≡ map kept_meant events ++ lent_message next kind ∷ [] → HasGathered role limits old new next kept
      goes_on_lent kept more = one_more (Ok (turns.Lent kind)) lends (lent_message next kind) lends.next.0.has lends.next.1 kept more

      pub no_memory_lent : IsGathered {A = A} {B = B} role limits old new (Err stop.Memory)
      no_memory_lent = not_kept (Ok (turns.Lent kind)) lends (lent_message next kind) lends.next.0.has lends.next.1
