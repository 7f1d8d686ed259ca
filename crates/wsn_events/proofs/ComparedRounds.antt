-- Two event sources in rounds: the events that each has given, and how far they are the same.
use Rattle.std.proofs.Common.{◌≡◌, ℕ, ◌+◌, ◌^◌, ◌<◌, ◌≤◌, Option, None, Some, Result, Ok, List, [], ◌∷◌, ◌++◌, length, sym, ap, ◌∙◌, subst, append-nil, length-append, arith}
use Rattle.std.specs.Option.{option_or}
use Rattle.wsn_wire.specs.declared.endpoint.Role.{Role}
use Rattle.wsn_io.specs.Transfer.{Incoming}
use Rattle.wsn_rules.specs.declared.verdict.Verdict.{Verdict}
use Rattle.wsn_io.specs.declared.stop.Stop.{Stop}
use Rattle.wsn_rules.specs.declared.without.Without.{Without}
use Rattle.wsn_rules.specs.Limits.{Limits}
use Rattle.wsn_rules.specs.LeftOut.{events_without}
use Rattle.wsn_rules.specs.Meaning.{MeantEvent}
use Rattle.wsn_scan.proofs.ReaderReports.{left_few}
use Rattle.wsn_events.specs.declared.comparing.Round.TheVariants.{Alike, Unlike}
use Rattle.wsn_events.specs.Turns.{MeantTurn, OfEvent, OfVerdict}
use Rattle.wsn_events.specs.SourceStates.{SourceState, HasGiven, answered, events_ahead}
use Rattle.wsn_rules.specs.SameMeaning.{DifferAt}
use Rattle.wsn_events.specs.Comparing.{IsRoundOf}
use Rattle.wsn_events.proofs.ComparedEvents.{differ_sym, differ_more, differ_next, differ_end, differ_first}
use Rattle.wsn_events.proofs.ComparedSources.{Gives, HasGivenNext}

-- a bound on the rounds in which a source can still give an event or its verdict
abbrev pub rounds_ahead : Option (Result Verdict Stop) → ℕ → ℕ
rounds_ahead None left = left + 1
rounds_ahead (Some answer) left = 0

abbrev pub pending : {A : Type 0} → SourceState A → ℕ
pending reading = rounds_ahead (answered reading) (events_ahead reading)

-- Without a difference, neither has ended, and they have given `index` events, the same. A difference stays the first.
abbrev pub IsDifferenceSoFar : {A : Type 0} → SourceState A → SourceState A → ℕ → List MeantEvent → List MeantEvent → Option ℕ → Type 0
IsDifferenceSoFar reading other index events others None =
    (answered reading ≡ None) × (answered other ≡ None) × (events ≡ others) × (length events ≡ index)
IsDifferenceSoFar reading other index events others (Some k) =
    DifferAt k events others × (answered reading ≡ None → k < length events) × (answered other ≡ None → k < length others)

-- 1 for an event, 0 for a verdict
abbrev falls_by : MeantTurn → ℕ
falls_by (OfEvent event) = 1
falls_by (OfVerdict verdict) = 0

-- an event or two
some_alike : (turn other : MeantTurn) → IsRoundOf turn other Alike → 0 < falls_by turn + falls_by other
some_alike turn other is = grind arith

some_unlike : (turn other : MeantTurn) → IsRoundOf turn other Unlike → 0 < falls_by turn + falls_by other
some_unlike turn other is = grind arith

module _ {A : Type 0} (role : Role) (limits : Limits) where
  -- the first difference stays
  differ_on : (before reading : SourceState A) (given events others : List MeantEvent) (turn : MeantTurn) (k : ℕ)
      → Gives before reading given events turn → (answered before ≡ None → k < length given) → DifferAt k given others
      → DifferAt k events others × (answered reading ≡ None → k < length events)
  differ_on before reading given events others (OfEvent event) k gives within differ =
      let more = differ_more k given others (event ∷ []) (within gives.1) differ in
      (subst (λ (es : List MeantEvent). DifferAt k es others) (sym gives.0) more, λ going. omega (arith, within gives.1, ap (λ (es : List MeantEvent). length es) gives.0, length-append given (event ∷ [])))
  differ_on before reading given events others (OfVerdict verdict) k gives within differ =
      (subst (λ (es : List MeantEvent). DifferAt k es others) (sym gives.0) differ, λ going. let both : Some (Ok verdict) ≡ None = sym gives.1 ∙ going in absurd cc)

  -- ---- rounds

  pending_going : (reading : SourceState A) → answered reading ≡ None → pending reading ≡ events_ahead reading + 1
  pending_going reading going = ap (λ (a : Option (Result Verdict Stop)). rounds_ahead a (events_ahead reading)) going

  pending_done : (reading : SourceState A) (answer : Result Verdict Stop) → answered reading ≡ Some answer → pending reading ≡ 0
  pending_done reading answer done = ap (λ (a : Option (Result Verdict Stop)). rounds_ahead a (events_ahead reading)) done

  -- at most a round for each byte of the input limit, and one for the verdict
  pub few_rounds : (reading : SourceState A) → HasGiven role limits reading [] [] → pending reading ≤ 2 ^ 41 + 2
  few_rounds reading has = grind (arith, pending_going, left_few)

  falls : (before reading : SourceState A) (given events : List MeantEvent) (turn : MeantTurn)
      → Gives before reading given events turn → pending reading + falls_by turn ≤ pending before
  falls before reading given events turn gives = grind (arith, pending_going, pending_done)

  -- ---- what comes after the same events, or after a difference

  -- both sides of a first difference
  differ_still : (before reading other_before other : SourceState A) (given events other_given others : List MeantEvent) (turn other_turn : MeantTurn) (k : ℕ)
      → Gives before reading given events turn → Gives other_before other other_given others other_turn
      → DifferAt k given other_given → (answered before ≡ None → k < length given) → (answered other_before ≡ None → k < length other_given)
      → DifferAt k events others × (answered reading ≡ None → k < length events) × (answered other ≡ None → k < length others)
  differ_still before reading other_before other given events other_given others turn other_turn k gives other_gives differ within other_within =
      let one = differ_on before reading given events other_given turn k gives within differ in
      let two = differ_on other_before other other_given others events other_turn k other_gives other_within (differ_sym k events other_given one.0) in
      (differ_sym k others events two.0, one.1, two.1)

  same_next : (before reading other_before other : SourceState A) (given events other_given others : List MeantEvent) (turn other_turn : MeantTurn) (index : ℕ)
      → Gives before reading given events turn → Gives other_before other other_given others other_turn
      → given ≡ other_given → length given ≡ index → IsRoundOf turn other_turn Alike → IsDifferenceSoFar reading other (index + 1) events others None
  same_next before reading other_before other given events other_given others turn other_turn index gives other_gives same size is = grind (arith, length-append)

  unlike_next : (before reading other_before other : SourceState A) (given events other_given others : List MeantEvent) (turn other_turn : MeantTurn) (index : ℕ)
      → Gives before reading given events turn → Gives other_before other other_given others other_turn
      → given ≡ other_given → length given ≡ index → IsRoundOf turn other_turn Unlike → IsDifferenceSoFar reading other (index + 1) events others (Some index)
  unlike_next before reading other_before other given events other_given others (OfEvent event) (OfEvent that) index gives other_gives same size is = (
    differ_first given events other_given others (event ∷ []) (that ∷ []) index gives.0 other_gives.0 same size (differ_next given event that is),
    λ going. omega (arith, ap (λ (es : List MeantEvent). length es) gives.0, length-append given (event ∷ [])),
    λ going. omega (arith, ap (λ (es : List MeantEvent). length es) other_gives.0, length-append other_given (that ∷ []), ap (λ (es : List MeantEvent). length es) same),
  )
  unlike_next before reading other_before other given events other_given others (OfEvent event) (OfVerdict verdict) index gives other_gives same size is = (
    differ_first given events other_given others (event ∷ []) [] index gives.0 (other_gives.0 ∙ sym (append-nil other_given)) same size
        (subst (λ (es : List MeantEvent). DifferAt (length given) (given ++ event ∷ []) es) (sym (append-nil given)) (differ_end given event)),
    λ going. omega (arith, ap (λ (es : List MeantEvent). length es) gives.0, length-append given (event ∷ [])),
    λ going. let both : Some (Ok verdict) ≡ None = sym other_gives.1 ∙ going in absurd cc,
  )
  unlike_next before reading other_before other given events other_given others (OfVerdict verdict) (OfEvent that) index gives other_gives same size is = (
    differ_first given events other_given others [] (that ∷ []) index (gives.0 ∙ sym (append-nil given)) other_gives.0 same size
        (subst (λ (es : List MeantEvent). DifferAt (length given) es (given ++ that ∷ [])) (sym (append-nil given)) (differ_sym (length given) (given ++ that ∷ []) given (differ_end given that))),
    λ going. let both : Some (Ok verdict) ≡ None = sym gives.1 ∙ going in absurd cc,
    λ going. omega (arith, ap (λ (es : List MeantEvent). length es) other_gives.0, length-append other_given (that ∷ []), ap (λ (es : List MeantEvent). length es) same),
  )
  unlike_next before reading other_before other given events other_given others (OfVerdict verdict) (OfVerdict that) index gives other_gives same size is = absurd is

  -- ---- one round

  module _ (without : Without) (old other_old new other_new : Incoming) (before reading other_before other : SourceState A) (was other_was : List ℕ) (given other_given : List MeantEvent) (turn other_turn : MeantTurn)
      (one : HasGivenNext without role limits old new before reading was given turn) (two : HasGivenNext without role limits other_old other_new other_before other other_was other_given other_turn) where
    -- what is left of the events before the round, and with it
    abbrev left : List MeantEvent
    left = events_without without given

    abbrev left_now : List MeantEvent
    left_now = events_without without one.events

    abbrev other_left : List MeantEvent
    other_left = events_without without other_given

    abbrev other_left_now : List MeantEvent
    other_left_now = events_without without two.events

    fewer : 0 < falls_by turn + falls_by other_turn → pending reading + pending other < pending before + pending other_before
    fewer some = omega (arith, some, falls before reading left left_now turn one.gives, falls other_before other other_left other_left_now other_turn two.gives)

    alike_on : (index : ℕ) (difference : Option ℕ) → IsDifferenceSoFar before other_before index left other_left difference → IsRoundOf turn other_turn Alike
        → IsDifferenceSoFar reading other (index + 1) left_now other_left_now difference
    alike_on index None so_far is = same_next before reading other_before other left left_now other_left other_left_now turn other_turn index one.gives two.gives so_far.2 so_far.3 is
    alike_on index (Some k) so_far is = differ_still before reading other_before other left left_now other_left other_left_now turn other_turn k one.gives two.gives so_far.0 so_far.1 so_far.2

    unlike_on : (index : ℕ) (difference : Option ℕ) → IsDifferenceSoFar before other_before index left other_left difference → IsRoundOf turn other_turn Unlike
        → IsDifferenceSoFar reading other (index + 1) left_now other_left_now (option_or difference (Some index))
    unlike_on index None so_far is = unlike_next before reading other_before other left left_now other_left other_left_now turn other_turn index one.gives two.gives so_far.2 so_far.3 is
    unlike_on index (Some k) so_far is = differ_still before reading other_before other left left_now other_left other_left_now turn other_turn k one.gives two.gives so_far.0 so_far.1 so_far.2

    -- the same event on both sides
    pub on_alike : (index : ℕ) (difference now : Option ℕ) → IsDifferenceSoFar before other_before index left other_left difference → now ≡ difference → IsRoundOf turn other_turn Alike
        → IsDifferenceSoFar reading other (index + 1) left_now other_left_now now × (pending reading + pending other < pending before + pending other_before)
    on_alike index difference now so_far is round = grind (arith, alike_on, fewer, some_alike)

    -- two events, or an event where the other side has none
    pub on_unlike : (index : ℕ) (difference now : Option ℕ) → IsDifferenceSoFar before other_before index left other_left difference → now ≡ option_or difference (Some index)
        → IsRoundOf turn other_turn Unlike → IsDifferenceSoFar reading other (index + 1) left_now other_left_now now × (pending reading + pending other < pending before + pending other_before)
    on_unlike index difference now so_far is round = grind (arith, unlike_on, fewer, some_unlike)
