-- What is kept of the first difference in a comparison, round by round.
use Rattle.std.proofs.Common.{◌≡◌, ℕ, ◌+◌, ◌<◌, ◌≤◌, true, false, Option, None, Some, Result, Ok, Err, List, length, refl, sym, ap, ◌∙◌, subst, arith}
use Rattle.std.specs.Option.{option_or}
use Rattle.std.specs.Prelude.{is_some}
use Rattle.wsn_wire.specs.declared.endpoint.Role.{Role}
use Rattle.wsn_io.specs.Transfer.{Incoming}
use Rattle.wsn_rules.specs.declared.verdict.Summary.{Summary}
use Rattle.wsn_rules.specs.declared.verdict.Verdict.{Verdict}
use Rattle.wsn_rules.specs.declared.verdict.Verdict.TheVariants.{Accepted}
use Rattle.wsn_rules.specs.declared.compared.Compared.{Compared}
use Rattle.wsn_rules.specs.declared.compared.Compared.TheVariants.{Different}
use Rattle.wsn_io.specs.declared.stop.Stop.{Stop}
use Rattle.wsn_rules.specs.declared.without.Without.{Without}
use Rattle.wsn_rules.specs.Limits.{Limits}
use Rattle.wsn_rules.specs.LeftOut.{events_without}
use Rattle.wsn_rules.specs.Meaning.{MeantEvent}
use Rattle.wsn_print.specs.DifferingPayloads.{event_in}
use Rattle.wsn_events.specs.declared.comparing.Round.{Round}
use Rattle.wsn_events.specs.declared.comparing.Round.TheVariants.{Alike, Unlike, Over}
use Rattle.wsn_events.specs.declared.excerpt.Excerpt.{Excerpt}
use Rattle.wsn_events.specs.declared.first_difference.FirstDifference.{FirstDifference}
use Rattle.wsn_events.specs.Turns.{MeantTurn, OfEvent, OfVerdict}
use Rattle.wsn_events.specs.Sources.{IsLast}
use Rattle.wsn_rules.specs.SameMeaning.{IsAnAccepted}
use Rattle.wsn_events.specs.Comparing.{IsRoundOf, IsComparedBy}
use Rattle.wsn_events.specs.Excerpts.{IsKeptOf, HasKept, KeepsFirst, KeepsOf, index_in, AreExcerptsAt, HasExcerpts, answer_in, IsContrasted}
use Rattle.wsn_events.specs.PayloadExcerpts.{event_given, ArePayloadsKept}
use Rattle.wsn_events.proofs.StandingEvents.{StandsAt, Stands, stands_longer, excerpt_at, event_shown}
use Rattle.wsn_events.proofs.ComparedSources.{HasGivenNext}
use Rattle.wsn_events.proofs.ComparedRounds.{IsDifferenceSoFar, pending, on_alike, on_unlike}
use Rattle.wsn_events.specs.SourceStates.{SourceState}
use Rattle.wsn_events.proofs.Comparisons.{Compares, answers}

-- What is kept of a difference, if there is one, is in both streams.
abbrev pub AreKept : {A : Type 0} → Without → Role → Limits → SourceState A → List ℕ → List MeantEvent → SourceState A → List ℕ → List MeantEvent → Option FirstDifference → Type 0
AreKept without role limits reading came events other other_came others None = Unit {0}
AreKept without role limits reading came events other other_came others (Some d) =
    (event : Option MeantEvent) × (that : Option MeantEvent)
    × Stands without role limits reading came events d.index d.first event × Stands without role limits other other_came others d.index d.second that
    × ArePayloadsKept d.payloads event that

accepted_last : (role : Role) (limits : Limits) (new : Incoming) (came : List ℕ) (events : List MeantEvent) (v : Verdict) → IsAnAccepted v → IsLast role limits new came events (Ok v) → (summary : Summary) × IsLast role limits new came events (Ok (Accepted summary))
accepted_last role limits new came events (Accepted summary) is last = (summary, last)
accepted_last role limits new came events _ is last = absurd is

module _ {A : Type 0} (without : Without) (role : Role) (limits : Limits) where
  -- ---- of one source, with one result more

  stands_on : (old new : Incoming) (before reading : SourceState A) (was : List ℕ) (given : List MeantEvent) (turn : MeantTurn) (one : HasGivenNext without role limits old new before reading was given turn) (k : ℕ) (excerpt : Option Excerpt) (event : Option MeantEvent)
      → Stands without role limits before was given k excerpt event → Stands without role limits reading one.came one.events k excerpt event
  stands_on old new before reading was given turn one k (Some excerpt) (Some event) s = (
    s.0,
    s.1,
    s.2,
    subst (λ (bs : List ℕ). StandsAt without role limits bs k s.0 event s.1) (sym one.longer) (stands_longer without role limits was one.more k s.0 event s.1 s.3),
  )
  stands_on old new before reading was given (OfEvent next) one k None None s = let both : Some (Ok s.0.0) ≡ None = sym s.0.1 ∙ one.gives.1 in absurd cc
  stands_on old new before reading was given (OfVerdict verdict) one k None None s = ((verdict, one.gives.1), subst (λ (es : List MeantEvent). length es ≤ k) (sym one.gives.0) s.1)
  stands_on old new before reading was given turn one k _ _ s = absurd s

  stands_first : (old new : Incoming) (before reading : SourceState A) (was : List ℕ) (given : List MeantEvent) (turn : MeantTurn) (one : HasGivenNext without role limits old new before reading was given turn) (k : ℕ)
      → k ≡ length (events_without without given) → (excerpt : Option Excerpt) → IsKeptOf reading turn excerpt → Stands without role limits reading one.came one.events k excerpt (event_given turn)
  stands_first old new before reading was given turn one k index excerpt is = grind arith

  -- ---- of both, in one round

  module _ (old other_old new other_new : Incoming) (before reading other_before other : SourceState A) (was_came other_was : List ℕ) (given other_given : List MeantEvent) (turn other_turn : MeantTurn)
      (one : HasGivenNext without role limits old new before reading was_came given turn) (two : HasGivenNext without role limits other_old other_new other_before other other_was other_given other_turn) where
    kept_on : (difference : Option FirstDifference) → AreKept without role limits before was_came given other_before other_was other_given difference → AreKept without role limits reading one.came one.events other two.came two.events difference
    kept_on None kept = tt
    kept_on (Some d) kept = (
      kept.0,
      kept.1,
      stands_on old new before reading was_came given turn one d.index d.first kept.0 kept.2,
      stands_on other_old other_new other_before other other_was other_given other_turn two d.index d.second kept.1 kept.3,
      kept.4,
    )

    kept_first : (index : ℕ) (now : Option FirstDifference) → index ≡ length (events_without without given) → index ≡ length (events_without without other_given) → HasKept index reading turn other other_turn now
        → AreKept without role limits reading one.came one.events other two.came two.events now
    kept_first index None at other_at has = absurd has
    kept_first index (Some d) at other_at has = (
      event_given turn,
      event_given other_turn,
      stands_first old new before reading was_came given turn one d.index (has.index_is ∙ at) d.first has.first,
      stands_first other_old other_new other_before other other_was other_given other_turn two d.index (has.index_is ∙ other_at) d.second has.second,
      has.payloads,
    )

    kept_unlike : (index : ℕ) (was now : Option FirstDifference) → KeepsFirst index reading turn other other_turn was now
        → IsDifferenceSoFar before other_before index (events_without without given) (events_without without other_given) (index_in was)
        → AreKept without role limits before was_came given other_before other_was other_given was → AreKept without role limits reading one.came one.events other two.came two.events now
    kept_unlike index (Some d) now keeps so_far kept = subst (λ (x : Option FirstDifference). AreKept without role limits reading one.came one.events other two.came two.events x) (sym keeps) (kept_on (Some d) kept)
    kept_unlike index None now keeps so_far kept = kept_first index now (sym so_far.3) (sym so_far.3 ∙ ap (λ (es : List MeantEvent). length es) so_far.2) keeps

    has_index : (index : ℕ) (now : Option FirstDifference) → HasKept index reading turn other other_turn now → index_in now ≡ Some index
    has_index index now has = grind arith

    index_after : (index : ℕ) (was now : Option FirstDifference) → KeepsFirst index reading turn other other_turn was now → index_in now ≡ option_or (index_in was) (Some index)
    index_after index was now keeps = grind (arith, has_index)

    -- What holds after a round in which not both have their verdicts.
    pub record GoesOn (index : ℕ) (now : Option FirstDifference) : Type 0 where
      pub difference : IsDifferenceSoFar reading other (index + 1) (events_without without one.events) (events_without without two.events) (index_in now)
      pub falls : pending reading + pending other < pending before + pending other_before
      pub kept : AreKept without role limits reading one.came one.events other two.came two.events now

    pub goes_on : (index : ℕ) (was now : Option FirstDifference) (round : Round) → IsRoundOf turn other_turn round → ((v w : Verdict) → round ≡ Over v w → ⊥) → KeepsOf round index reading turn other other_turn was now
        → IsDifferenceSoFar before other_before index (events_without without given) (events_without without other_given) (index_in was)
        → AreKept without role limits before was_came given other_before other_was other_given was → GoesOn index now
    goes_on index was now Alike is not_over keeps so_far kept =
        let step = on_alike role limits without old other_old new other_new before reading other_before other was_came other_was given other_given turn other_turn one two index (index_in was) (index_in now) so_far (ap index_in keeps) is in
        record {
          difference = step.0;
          falls = step.1;
          kept = subst (λ (x : Option FirstDifference). AreKept without role limits reading one.came one.events other two.came two.events x) (sym keeps) (kept_on was kept);
        }
    goes_on index was now Unlike is not_over keeps so_far kept =
        let step = on_unlike role limits without old other_old new other_new before reading other_before other was_came other_was given other_given turn other_turn one two index (index_in was) (index_in now) so_far (index_after index was now keeps) is in
        record { difference = step.0; falls = step.1; kept = kept_unlike index was now keeps so_far kept }
    goes_on index was now (Over v w) is not_over keeps so_far kept = absurd (not_over v w refl)

  -- ---- the answer

  -- both have their verdicts
  pub contrasts : (old other_old new other_new : Incoming) (before reading other_before other : SourceState A) (was other_was : List ℕ) (given other_given : List MeantEvent) (turn other_turn : MeantTurn)
      → HasGivenNext without role limits old new before reading was given turn → HasGivenNext without role limits other_old other_new other_before other other_was other_given other_turn
      → (index : ℕ) (difference : Option FirstDifference) → IsDifferenceSoFar before other_before index (events_without without given) (events_without without other_given) (index_in difference)
      → AreKept without role limits before was given other_before other_was other_given difference
      → (verdict other_verdict : Verdict) → IsRoundOf turn other_turn (Over verdict other_verdict)
      → (result : Compared) → Compares (events_without without) verdict other_verdict (index_in difference) result
      → ((k : ℕ) → result ≡ Different k → (index_in difference ≡ Some k) × IsAnAccepted verdict × IsAnAccepted other_verdict)
      → IsContrasted without role limits old new other_old other_new (Ok (result, difference))
  contrasts old other_old new other_new before reading other_before other was other_was given other_given (OfEvent event) other_turn one two index difference so_far kept verdict other_verdict is result reported differs = absurd (no_event other_turn is)
    where
      no_event : (n : MeantTurn) → IsRoundOf (OfEvent event) n (Over verdict other_verdict) → ⊥
      no_event n round = grind arith
  contrasts old other_old new other_new before reading other_before other was other_was given other_given (OfVerdict v) (OfEvent event) one two index difference so_far kept verdict other_verdict is result reported differs = absurd is
  contrasts old other_old new other_new before reading other_before other was other_was given other_given (OfVerdict v) (OfVerdict w) one two index difference so_far kept verdict other_verdict is result reported differs = record {
    compared = record {
      came = one.came;
      received = one.followed.received;
      other_came = two.came;
      other_received = two.followed.received;
      answer = answers without role limits old other_old new other_new before reading other_before other was other_was given other_given v w one two index (index_in difference) so_far verdict other_verdict is result reported;
    };
    excerpts = by_result result difference differs (kept_on old other_old new other_new before reading other_before other was other_was given other_given (OfVerdict v) (OfVerdict w) one two difference kept);
  }
    where
      at_index : (k : ℕ) (d : FirstDifference) → (index_in (Some d) ≡ Some k) × IsAnAccepted verdict × IsAnAccepted other_verdict
          → AreKept without role limits reading one.came one.events other two.came two.events (Some d) → AreExcerptsAt without role limits one.came two.came k d
      at_index k d found stand =
          let same : d.index ≡ k = cc in
          let last = accepted_last role limits new one.came one.events v (subst (λ (x : Verdict). IsAnAccepted x) is.0 found.1) one.last in
          let other_last = accepted_last role limits other_new two.came two.events w (subst (λ (x : Verdict). IsAnAccepted x) is.1 found.2) two.last in
          let stands = subst (λ (n : ℕ). Stands without role limits reading one.came one.events n d.first stand.0) same stand.2 in
          let other_stands = subst (λ (n : ℕ). Stands without role limits other two.came two.events n d.second stand.1) same stand.3 in
          let first = excerpt_at without role limits reading new one.came one.events last.0 k d.first stand.0 last.1 stands in
          let second = excerpt_at without role limits other other_new two.came two.events other_last.0 k d.second stand.1 other_last.1 other_stands in
          record {
            index_is = same;
            first = first;
            second = second;
            payloads =
                subst (λ (e : Option MeantEvent). ArePayloadsKept d.payloads e (event_in second.0)) (event_shown without role limits reading new one.came one.events last.0 k d.first stand.0 last.1 stands)
                (subst (λ (e : Option MeantEvent). ArePayloadsKept d.payloads stand.0 e) (event_shown without role limits other other_new two.came two.events other_last.0 k d.second stand.1 other_last.1 other_stands) stand.4);
          }

      by_result : (r : Compared) (d : Option FirstDifference) → ((k : ℕ) → r ≡ Different k → (index_in d ≡ Some k) × IsAnAccepted verdict × IsAnAccepted other_verdict)
          → AreKept without role limits reading one.came one.events other two.came two.events d → HasExcerpts without role limits one.came two.came (Ok (r, d))
      by_result r d found stand = grind (arith, at_index)

-- ---- the answer alone

module _ (without : Without) (role : Role) (limits : Limits) (old new other_old other_new : Incoming) (result : Result (Compared × Option FirstDifference) Stop) (is : IsContrasted without role limits old new other_old other_new result) where
  pub answered_with : (answer : Compared × Option FirstDifference) → result ≡ Ok answer → IsComparedBy (events_without without) role limits old new other_old other_new (Ok answer.0)
  answered_with answer was = subst (λ (r : Result (Compared × Option FirstDifference) Stop). IsComparedBy (events_without without) role limits old new other_old other_new (answer_in r)) was is.compared

  pub stopped_at : (stop : Stop) → result ≡ Err stop → (other : Result Compared Stop) → other ≡ Err stop → IsComparedBy (events_without without) role limits old new other_old other_new other
  stopped_at stop was other same = grind arith

-- a difference that was kept stays
pub keeps_first : {A : Type 0} (index : ℕ) (reading : SourceState A) (turn : MeantTurn) (other : SourceState A) (other_turn : MeantTurn) (was : Option FirstDifference) → is_some was ≡ true → KeepsFirst index reading turn other other_turn was was
keeps_first index reading turn other other_turn was fact = grind arith

-- or these are kept
pub keeps_new : {A : Type 0} (index : ℕ) (reading : SourceState A) (turn : MeantTurn) (other : SourceState A) (other_turn : MeantTurn) (was : Option FirstDifference) (d : FirstDifference) → is_some was ≡ false
    → d.index ≡ index → IsKeptOf reading turn d.first → IsKeptOf other other_turn d.second → ArePayloadsKept d.payloads (event_given turn) (event_given other_turn) → KeepsFirst index reading turn other other_turn was (Some d)
keeps_new index reading turn other other_turn was d none index_is first second payloads = grind arith
