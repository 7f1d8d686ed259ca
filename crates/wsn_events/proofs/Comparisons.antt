-- What the comparison of two streams answers at each end of its rounds.
use Rattle.std.proofs.Common.{◌≡◌, ℕ, ◌+◌, Option, None, true, false, Ok, Err, List, sym, subst, arith}
use Rattle.wsn_wire.specs.declared.endpoint.Role.{Role}
use Rattle.wsn_io.specs.Transfer.{Incoming, IsReceived}
use Rattle.wsn_rules.specs.declared.verdict.Summary.{Summary}
use Rattle.wsn_rules.specs.declared.verdict.Verdict.{Verdict}
use Rattle.wsn_rules.specs.declared.verdict.Verdict.TheVariants.{Accepted}
use Rattle.wsn_io.specs.declared.stop.Stop.{Stop}
use Rattle.wsn_rules.specs.declared.without.Without.{Without}
use Rattle.wsn_rules.specs.Limits.{Limits}
use Rattle.wsn_rules.specs.LeftOut.{events_without}
use Rattle.wsn_rules.specs.Meaning.{MeantEvent}
use Rattle.wsn_rules.specs.declared.compared.Compared.{Compared}
use Rattle.wsn_rules.specs.declared.compared.Compared.TheVariants.{Equal, NotAccepted}
use Rattle.wsn_events.specs.Turns.{MeantTurn, OfVerdict}
use Rattle.wsn_events.specs.Sources.{IsLast}
use Rattle.wsn_rules.specs.SameMeaning.{IsFirstDifference, IsAnAccepted}
use Rattle.wsn_events.specs.Comparing.{HasStopped, IsComparisonBy}
use Rattle.wsn_events.specs.Excerpts.{IsContrasted}
use Rattle.wsn_events.proofs.ComparedSources.{HasFollowed, HasGivenNext}
use Rattle.wsn_events.specs.SourceStates.{SourceState}
use Rattle.wsn_events.proofs.ComparedRounds.{IsDifferenceSoFar}

-- What the answer must say for two verdicts and the first difference of the events before them.
abbrev pub Compares : (List MeantEvent → List MeantEvent) → Verdict → Verdict → Option ℕ → Compared → Type 0
Compares part verdict other difference result =
    (role : Role) (limits : Limits) (new : Incoming) (came : List ℕ) (events : List MeantEvent) (other_new : Incoming) (other_came : List ℕ) (others : List MeantEvent)
    → IsLast role limits new came events (Ok verdict) → IsLast role limits other_new other_came others (Ok other)
    → IsFirstDifference difference (part events) (part others) → IsComparisonBy part role limits new came other_new other_came (Ok result)

first_difference : {A : Type 0} (reading other : SourceState A) (index : ℕ) (given other_given : List MeantEvent) (difference : Option ℕ)
    → IsDifferenceSoFar reading other index given other_given difference → IsFirstDifference difference given other_given
first_difference reading other index given other_given difference so_far = grind arith

same_difference : (given events other_given others : List MeantEvent) (difference : Option ℕ) → events ≡ given → others ≡ other_given
    → IsFirstDifference difference given other_given → IsFirstDifference difference events others
same_difference given events other_given others difference is others_is first = grind arith

module _ {A : Type 0} (without : Without) (role : Role) (limits : Limits) where
  -- both have their verdicts
  pub answers : (old other_old new other_new : Incoming) (before reading other_before other : SourceState A) (was other_was : List ℕ) (given other_given : List MeantEvent) (v w : Verdict)
      → (one : HasGivenNext without role limits old new before reading was given (OfVerdict v)) → (two : HasGivenNext without role limits other_old other_new other_before other other_was other_given (OfVerdict w))
      → (index : ℕ) (difference : Option ℕ) → IsDifferenceSoFar before other_before index (events_without without given) (events_without without other_given) difference
      → (verdict other_verdict : Verdict) → (verdict ≡ v) × (other_verdict ≡ w)
      → (result : Compared) → Compares (events_without without) verdict other_verdict difference result → IsComparisonBy (events_without without) role limits new one.came other_new two.came (Ok result)
  answers old other_old new other_new before reading other_before other was other_was given other_given v w one two index difference so_far verdict other_verdict is result reported =
      let last = subst (λ (x : Verdict). IsLast role limits new one.came one.events (Ok x)) (sym is.0) one.last in
      let other_last = subst (λ (x : Verdict). IsLast role limits other_new two.came two.events (Ok x)) (sym is.1) two.last in
      let first = first_difference before other_before index (events_without without given) (events_without without other_given) difference so_far in
      reported role limits new one.came one.events other_new two.came two.events last other_last (same_difference (events_without without given) (events_without without one.events) (events_without without other_given) (events_without without two.events) difference one.gives.0 two.gives.0 first)

  -- the first stream has stopped
  pub first_stops : (old new other_old other_new : Incoming) (other : SourceState A) (other_came : List ℕ) (other_given : List MeantEvent) → HasFollowed role limits other_old other_new other other_came other_given
      → (stop : Stop) → (all : List ℕ) × IsReceived (limits.input + 1) old new all × HasStopped role limits new all stop
      → IsContrasted without role limits old new other_old other_new (Err stop)
  first_stops old new other_old other_new other other_came other_given followed stop stops = grind arith

  -- the second stream has stopped
  pub second_stops : (old new other_old other_new : Incoming) (before reading : SourceState A) (was : List ℕ) (given : List MeantEvent) (turn : MeantTurn) → HasGivenNext without role limits old new before reading was given turn
      → (stop : Stop) → (all : List ℕ) × IsReceived (limits.input + 1) other_old other_new all × HasStopped role limits other_new all stop
      → IsContrasted without role limits old new other_old other_new (Err stop)
  second_stops old new other_old other_new before reading was given turn one stop stops = grind arith

-- ---- the answer, by the verdicts

pub not_accepted : (verdict : Verdict) → ((summary : Summary) → verdict ≡ Accepted summary → ⊥) → IsAnAccepted verdict → ⊥
not_accepted verdict none is = grind arith

accepted : (role : Role) (limits : Limits) (new : Incoming) (came : List ℕ) (events : List MeantEvent) (verdict : Verdict) (summary : Summary)
    → verdict ≡ Accepted summary → IsLast role limits new came events (Ok verdict) → IsLast role limits new came events (Ok (Accepted summary))
accepted role limits new came events verdict summary is last = subst (λ (v : Verdict). IsLast role limits new came events (Ok v)) is last

pub first_not_accepted : (part : List MeantEvent → List MeantEvent) (verdict other : Verdict) (difference : Option ℕ) → ((summary : Summary) → verdict ≡ Accepted summary → ⊥) → Compares part verdict other difference (NotAccepted false verdict)
first_not_accepted part verdict other difference none role limits new came events other_new other_came others last other_last first =
    ((events, last), not_accepted verdict none, (other, (others, other_last)))

pub second_not_accepted : (part : List MeantEvent → List MeantEvent) (verdict other : Verdict) (difference : Option ℕ) (summary : Summary) → verdict ≡ Accepted summary → ((s : Summary) → other ≡ Accepted s → ⊥)
    → Compares part verdict other difference (NotAccepted true other)
second_not_accepted part verdict other difference summary is none role limits new came events other_new other_came others last other_last first =
    ((summary, (events, accepted role limits new came events verdict summary is last)), (others, other_last), not_accepted other none)

pub are_equal : (part : List MeantEvent → List MeantEvent) (verdict other : Verdict) (difference : Option ℕ) (summary other_summary : Summary) → verdict ≡ Accepted summary → other ≡ Accepted other_summary → difference ≡ None
    → Compares part verdict other difference Equal
are_equal part verdict other difference summary other_summary is other_is none role limits new came events other_new other_came others last other_last first = (
  events,
  others,
  (summary, accepted role limits new came events verdict summary is last),
  (other_summary, accepted role limits other_new other_came others other other_summary other_is other_last),
  subst (λ (d : Option ℕ). IsFirstDifference d (part events) (part others)) none first,
)
