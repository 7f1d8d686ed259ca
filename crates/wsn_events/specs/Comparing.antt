-- What comparing two streams of one role answers as they are read: whether both are accepted, and whether they mean the
-- same. `part` is the part of a stream's events that is compared.
use Rattle.std.specs.Prelude.{◌≡◌, ◌≢◌, ℕ, ◌+◌, ◌⊎◌, true, false, Option, Some, Result, Ok, Err, List, ⊤}
use Rattle.wsn_wire.specs.declared.endpoint.Role.{Role}
use Rattle.wsn_wire.specs.declared.opcode.Kind.{Kind}
use Rattle.wsn_io.specs.Transfer.{Incoming, IsReceived}
use Rattle.wsn_rules.specs.declared.verdict.Summary.{Summary}
use Rattle.wsn_rules.specs.declared.verdict.Verdict.{Verdict, TheVariants.{Accepted}}
use Rattle.wsn_io.specs.declared.stop.Stop.{Stop}
use Rattle.wsn_rules.specs.Limits.{Limits}
use Rattle.wsn_rules.specs.Meaning.{MeantEvent}
use Rattle.wsn_rules.specs.SameMeaning.{DifferAt, IsFirstDifference, IsAnAccepted, all_events}
use Rattle.wsn_rules.specs.declared.compared.Compared.{Compared, TheVariants.{Equal, Different, NotAccepted}}
use Rattle.wsn_events.specs.declared.comparing.Round.{Round, TheVariants.{Alike, Unlike, Over}}
use Rattle.wsn_events.specs.Sources.{IsLast, IsHalted}
use Rattle.wsn_events.specs.LentMessages.{held_bytes}
use Rattle.wsn_events.specs.SourceStates.{SourceState}
use Rattle.wsn_events.specs.Turns.{MeantTurn, OfEvent, OfVerdict}

-- The round that two turns make: the same event, two turns that differ, or both verdicts.
abbrev pub IsRoundOf : MeantTurn → MeantTurn → Round → Type 0
IsRoundOf (OfEvent event) (OfEvent other) Alike = event ≡ other
IsRoundOf (OfEvent event) (OfEvent other) Unlike = event ≢ other
IsRoundOf (OfEvent event) (OfVerdict verdict) Unlike = ⊤
IsRoundOf (OfVerdict verdict) (OfEvent event) Unlike = ⊤
IsRoundOf (OfVerdict verdict) (OfVerdict other) (Over v w) = (v ≡ verdict) × (w ≡ other)
IsRoundOf turn other round = ⊥

-- Both sources lend a message, and these are the same.
pub record AreLentAlike {A : Type 0} (reading : SourceState A) (lent : Option Kind) (other : SourceState A)
    (other_lent : Option Kind) : Type 0 where
  pub kind : Kind
  pub is : lent ≡ Some kind
  pub other_is : other_lent ≡ Some kind
  pub same : held_bytes reading ≡ held_bytes other

-- The stream was read to its verdict, which accepts the bytes that came, and these are its events.
abbrev pub IsAcceptedOf : Role → Limits → Incoming → List ℕ → List MeantEvent → Type 0
IsAcceptedOf role limits new came events =
    (summary : Summary) × IsLast role limits new came events (Ok (Accepted summary))

-- The stream was read to this verdict.
abbrev pub HasVerdict : Role → Limits → Incoming → List ℕ → Verdict → Type 0
HasVerdict role limits new came verdict = (events : List MeantEvent) × IsLast role limits new came events (Ok verdict)

-- The stream stopped before its verdict.
abbrev pub HasStopped : Role → Limits → Incoming → List ℕ → Stop → Type 0
HasStopped role limits new came stop = (events : List MeantEvent) × IsHalted role limits new came events stop

-- The answer is right for the bytes that came of both streams. With a verdict on each, it is the first that isn't
-- accepted, or else whether these parts of their events are equal or where they differ first. A stop is one of the
-- streams'.
abbrev pub IsComparisonBy : (List MeantEvent → List MeantEvent) → Role → Limits → Incoming → List ℕ → Incoming →
    List ℕ → Result Compared Stop → Type 0
IsComparisonBy part role limits new came other_new other_came (Ok Equal) =
    (events : List MeantEvent) × (others : List MeantEvent)
    × IsAcceptedOf role limits new came events × IsAcceptedOf role limits other_new other_came others
    × (part events ≡ part others)
IsComparisonBy part role limits new came other_new other_came (Ok (Different k)) =
    (events : List MeantEvent) × (others : List MeantEvent)
    × IsAcceptedOf role limits new came events × IsAcceptedOf role limits other_new other_came others
    × DifferAt k (part events) (part others)
IsComparisonBy part role limits new came other_new other_came (Ok (NotAccepted false verdict)) =
    HasVerdict role limits new came verdict × (IsAnAccepted verdict → ⊥)
    × ((other : Verdict) × HasVerdict role limits other_new other_came other)
IsComparisonBy part role limits new came other_new other_came (Ok (NotAccepted true verdict)) =
    ((summary : Summary) × HasVerdict role limits new came (Accepted summary))
    × HasVerdict role limits other_new other_came verdict × (IsAnAccepted verdict → ⊥)
IsComparisonBy part role limits new came other_new other_came (Err stop) =
    HasStopped role limits new came stop ⊎ HasStopped role limits other_new other_came stop

-- The answer is right for these verdicts and this first difference of the parts, whatever streams have them.
abbrev pub IsComparisonOutcome : (List MeantEvent → List MeantEvent) → Verdict → Verdict → Option ℕ → Compared → Type 0
IsComparisonOutcome part verdict other difference answer =
    (role : Role) (limits : Limits) (new : Incoming) (came : List ℕ) (events : List MeantEvent) (other_new : Incoming)
    (other_came : List ℕ) (others : List MeantEvent) →
    IsLast role limits new came events (Ok verdict) → IsLast role limits other_new other_came others (Ok other) →
    IsFirstDifference difference (part events) (part others) →
    IsComparisonBy part role limits new came other_new other_came (Ok answer)

-- These bytes came of each stream, at most one past its limit, and the answer is right for them.
pub record IsComparedBy (part : List MeantEvent → List MeantEvent) (role : Role) (limits : Limits)
    (old new other_old other_new : Incoming) (result : Result Compared Stop) : Type 0 where
  pub came : List ℕ
  pub received : IsReceived (limits.input + 1) old new came
  pub other_came : List ℕ
  pub other_received : IsReceived (limits.input + 1) other_old other_new other_came
  pub answer : IsComparisonBy part role limits new came other_new other_came result

-- ---- all events

-- The comparison of all events.
abbrev pub IsCompared : Role → Limits → Incoming → Incoming → Incoming → Incoming → Result Compared Stop → Type 0
IsCompared = IsComparedBy all_events
