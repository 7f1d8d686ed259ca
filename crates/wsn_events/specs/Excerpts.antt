-- What is kept of the events that differ first, to show them.
use Rattle.std.specs.Prelude.{◌≡◌, ℕ, Option, None, Some, Result, Ok, Err, List, length, take, ⊤}
use Rattle.wsn_wire.specs.declared.endpoint.Role.{Role}
use Rattle.wsn_wire.specs.declared.opcode.Op.{Op}
use Rattle.wsn_io.specs.Transfer.{Incoming}
use Rattle.wsn_io.specs.declared.stop.Stop.{Stop}
use Rattle.wsn_rules.specs.declared.compared.Compared.{Compared, TheVariants.{Different}}
use Rattle.wsn_rules.specs.declared.without.Without.{Without}
use Rattle.wsn_rules.specs.LawfulEvents.{IsLawfulEvent}
use Rattle.wsn_rules.specs.LeftOut.{events_without}
use Rattle.wsn_rules.specs.Limits.{Limits}
use Rattle.wsn_rules.specs.Meaning.{MeantEvent}
use Rattle.wsn_rules.specs.ShownStream.{Item}
use Rattle.wsn_rules.specs.ShownStream.Item.{Event}
use Rattle.wsn_rules.specs.ShownEvents.{IsShownAt}
use Rattle.wsn_print.specs.DifferingPayloads.{event_in}
use Rattle.wsn_print.specs.ShownParts.{event_of}
use Rattle.wsn_events.specs.declared.comparing.Round.{Round, TheVariants.{Unlike}}
use Rattle.wsn_events.specs.declared.excerpt.Excerpt.{Excerpt}
use Rattle.wsn_events.specs.declared.first_difference.FirstDifference.{FirstDifference}
use Rattle.wsn_events.specs.SourceStates.{SourceState, offset_of, frames_of}
use Rattle.wsn_events.specs.Comparing.{IsComparedBy}
use Rattle.wsn_events.specs.PayloadExcerpts.{event_given, ArePayloadsKept}
use Rattle.wsn_events.specs.Turns.{MeantTurn, OfEvent, OfVerdict}

-- ---- of one event

-- This opcode, the size of this payload, and its first 4,096 bytes are kept.
pub record HasPayload (excerpt : Excerpt) (op : Op) (payload : List ℕ) : Type 0 where
  pub op_is : excerpt.op ≡ op
  pub size : excerpt.bytes ≡ length payload
  pub first : excerpt.held.items ≡ take 4096 payload

-- This is kept of a lawful event of these frames at this offset.
pub record IsExcerptOf (excerpt : Excerpt) (offset : ℕ) (event : MeantEvent) (frames : ℕ) : Type 0 where
  pub offset_is : excerpt.offset ≡ offset
  pub frames_are : excerpt.frames ≡ frames
  pub lawful : IsLawfulEvent event
  pub op : Op
  pub payload : List ℕ
  pub is : event ≡ event_of op payload
  pub has : HasPayload excerpt op payload

-- This is kept of what is shown of an event; or there is neither.
abbrev pub IsExcerptIn : Option Excerpt → Option Item → Type 0
IsExcerptIn None None = ⊤
IsExcerptIn (Some excerpt) (Some (Event offset event frames)) = IsExcerptOf excerpt offset event frames
IsExcerptIn excerpt item = ⊥

-- ---- of a source's turns

-- This is kept of the source's last turn: its event, or nothing of a verdict.
abbrev pub IsKeptOf : {A : Type 0} → SourceState A → MeantTurn → Option Excerpt → Type 0
IsKeptOf reading (OfEvent event) (Some excerpt) =
    IsExcerptOf excerpt (offset_of reading) event (frames_of reading)
IsKeptOf reading (OfVerdict verdict) None = ⊤
IsKeptOf reading turn excerpt = ⊥

-- This is kept of the last turns of both sources.
pub record IsKeptOfBoth {A : Type 0} (index : ℕ) (reading : SourceState A) (turn : MeantTurn) (other : SourceState A)
    (other_turn : MeantTurn) (difference : FirstDifference) : Type 0 where
  pub index_is : difference.index ≡ index
  pub first : IsKeptOf reading turn difference.first
  pub second : IsKeptOf other other_turn difference.second
  pub payloads : ArePayloadsKept difference.payloads (event_given turn) (event_given other_turn)

-- There is a difference, and this is kept of it.
abbrev pub HasKept : {A : Type 0} → ℕ → SourceState A → MeantTurn → SourceState A → MeantTurn → Option FirstDifference →
    Type 0
HasKept index reading turn other other_turn None = ⊥
HasKept index reading turn other other_turn (Some difference) =
    IsKeptOfBoth index reading turn other other_turn difference

-- A difference that was kept stays; otherwise this is kept.
abbrev pub KeepsFirst : {A : Type 0} → ℕ → SourceState A → MeantTurn → SourceState A → MeantTurn → Option FirstDifference →
    Option FirstDifference →
    Type 0
KeepsFirst index reading turn other other_turn None now = HasKept index reading turn other other_turn now
KeepsFirst index reading turn other other_turn (Some difference) now = now ≡ Some difference

-- What is kept changes only in a round whose turns differ.
abbrev pub KeepsOf : {A : Type 0} → Round → ℕ → SourceState A → MeantTurn → SourceState A → MeantTurn →
    Option FirstDifference →
    Option FirstDifference →
    Type 0
KeepsOf Unlike index reading turn other other_turn was now = KeepsFirst index reading turn other other_turn was now
KeepsOf round index reading turn other other_turn was now = now ≡ was

-- the index of a difference, if there is one
abbrev pub index_in : Option FirstDifference → Option ℕ
index_in None = None
index_in (Some difference) = Some difference.index

-- ---- of streams

-- This is kept of the event with the index k, among those that aren't left out of a stream with these bytes, as it is
-- shown; nothing if there are fewer.
abbrev pub IsExcerptAt : Without → Role → Limits → List ℕ → ℕ → Option Excerpt → Type 0
IsExcerptAt without role limits bytes k excerpt =
    (item : Option Item) × IsShownAt without role limits bytes k item × IsExcerptIn excerpt item

-- Of streams with these bytes this is kept at the index k.
pub record AreExcerptsAt (without : Without) (role : Role) (limits : Limits) (bytes others : List ℕ) (k : ℕ)
    (difference : FirstDifference) : Type 0 where
  pub index_is : difference.index ≡ k
  pub first : IsExcerptAt without role limits bytes k difference.first
  pub second : IsExcerptAt without role limits others k difference.second
  pub payloads : ArePayloadsKept difference.payloads (event_in first.0) (event_in second.0)

-- If the answer is that the streams differ, there is a difference, and this is kept of it.
abbrev pub HasExcerpts : Without → Role → Limits → List ℕ → List ℕ → Result (Compared × Option FirstDifference) Stop →
    Type 0
HasExcerpts without role limits bytes others (Ok (Different k, None)) = ⊥
HasExcerpts without role limits bytes others (Ok (Different k, Some difference)) =
    AreExcerptsAt without role limits bytes others k difference
HasExcerpts without role limits bytes others result = ⊤

-- The answer alone.
abbrev pub answer_in : Result (Compared × Option FirstDifference) Stop → Result Compared Stop
answer_in (Ok answer) = Ok answer.0
answer_in (Err stop) = Err stop

-- The answer is right for the bytes that came, and so is what is kept of a difference.
pub record IsContrasted (without : Without) (role : Role) (limits : Limits) (old new other_old other_new : Incoming)
    (result : Result (Compared × Option FirstDifference) Stop) : Type 0 where
  pub compared : IsComparedBy (events_without without) role limits old new other_old other_new (answer_in result)
  pub excerpts : HasExcerpts without role limits compared.came compared.other_came result
