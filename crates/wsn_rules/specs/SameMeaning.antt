-- Whether two accepted streams of one role mean the same, and where they differ first.
use Rattle.std.specs.Prelude.{◌≡◌, ◌≢◌, ℕ, true, false, Option, None, Some, List, take, slice_get, ⊤}
use Rattle.wsn_wire.specs.declared.endpoint.Role.{Role}
use Rattle.wsn_wire.specs.Frame.{Frame}
use Rattle.wsn_rules.specs.declared.verdict.Verdict.{Verdict, TheVariants.{Accepted}}
use Rattle.wsn_rules.specs.declared.compared.Compared.{Compared, TheVariants.{Equal, Different, NotAccepted}}
use Rattle.wsn_rules.specs.Limits.{Limits}
use Rattle.wsn_rules.specs.Accepted.{IsAccepted}
use Rattle.wsn_rules.specs.Meaning.{MeantEvent, meaning}
use Rattle.wsn_rules.specs.Verdict.{IsVerdict}

-- The first k events are the same, and then the lists differ: in the next event, or one list has ended.
pub record DifferAt (k : ℕ) (events others : List MeantEvent) : Type 0 where
  pub alike : take k events ≡ take k others
  pub there : slice_get events k ≢ slice_get others k

-- The index at which two lists differ first; none if they are equal.
abbrev pub IsFirstDifference : Option ℕ → List MeantEvent → List MeantEvent → Type 0
IsFirstDifference None events others = events ≡ others
IsFirstDifference (Some k) events others = DifferAt k events others

-- The verdict is accepted.
abbrev pub IsAnAccepted : Verdict → Type 0
IsAnAccepted (Accepted summary) = ⊤
IsAnAccepted verdict = ⊥

-- The answer is right for two streams with all of these bytes, by these parts of their meanings: the first verdict that
-- isn't accepted, or else whether the parts are equal or where they differ first.
abbrev pub IsComparisonOfBy : (List MeantEvent → List MeantEvent) → Role → Limits → List ℕ → List ℕ → Compared →
    Type 0
IsComparisonOfBy part role limits bytes others Equal =
    (fs : List Frame) × (gs : List Frame) × IsAccepted role limits bytes fs × IsAccepted role limits others gs
    × (part (meaning fs) ≡ part (meaning gs))
IsComparisonOfBy part role limits bytes others (Different k) =
    (fs : List Frame) × (gs : List Frame) × IsAccepted role limits bytes fs × IsAccepted role limits others gs
    × DifferAt k (part (meaning fs)) (part (meaning gs))
IsComparisonOfBy part role limits bytes others (NotAccepted false verdict) =
    ((fs : List Frame) × IsVerdict role limits bytes fs verdict) × (IsAnAccepted verdict → ⊥)
IsComparisonOfBy part role limits bytes others (NotAccepted true verdict) =
    ((fs : List Frame) × IsAccepted role limits bytes fs)
    × ((gs : List Frame) × IsVerdict role limits others gs verdict) × (IsAnAccepted verdict → ⊥)

-- all of the events
abbrev pub all_events : List MeantEvent → List MeantEvent
all_events events = events

-- The answer is right for two streams with all of these bytes, by all of their events.
abbrev pub IsComparisonOf : Role → Limits → List ℕ → List ℕ → Compared → Type 0
IsComparisonOf = IsComparisonOfBy all_events
