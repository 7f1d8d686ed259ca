-- Where the payloads of two events differ, and which part of both is shown around that place.
use Rattle.std.specs.Prelude.{◌≡◌, ℕ, ◌+◌, ◌-◌, ◌/◌, ◌==◌, ◌||◌, nat_lt, Bool, true, false, if◌then◌else◌, Option, None, Some, List, ◌∷◌, length, take, drop, ⊤}
use Rattle.wsn_wire.specs.declared.opcode.Kind.TheVariants as kinds
use Rattle.wsn_rules.specs.Meaning.{MeantEvent, Message, payload_in}
use Rattle.wsn_rules.specs.ShownStream.{Item}
use Rattle.wsn_rules.specs.ShownStream.Item.{Event}
use Rattle.wsn_print.specs.declared.shown.DifferingPayloads.{DifferingPayloads}
use Rattle.wsn_print.specs.declared.shown.PayloadPart.{PayloadPart}
use Rattle.wsn_print.specs.ShownParts.{IsFrontOf, text_part}

-- ---- the place

-- The number of bytes at the beginning that are the same in both.
abbrev pub common_length : List ℕ → List ℕ → ℕ
common_length (a ∷ payload) (b ∷ other) = if a == b then common_length payload other + 1 else 0
common_length payload other = 0

-- The place of the first byte in which they differ, from 0: the length of the shorter if it is the beginning of the
-- other. There is none if they are the same.
abbrev pub place_between : List ℕ → List ℕ → Option ℕ
place_between payload other =
    if nat_lt (common_length payload other) (length payload) || nat_lt (common_length payload other) (length other)
    then Some (common_length payload other) else None

-- The place in the payloads of two events.
abbrev pub place_in : Option MeantEvent → Option MeantEvent → Option ℕ
place_in (Some event) (Some other) = place_between (payload_in event) (payload_in other)
place_in event other = None

-- The event that an item is.
abbrev pub event_in : Option Item → Option MeantEvent
event_in (Some (Event offset event frames)) = Some event
event_in item = None

-- ---- the part of a payload around a place

-- It begins 8 bytes before the place, or with the payload; in a text, after the whole characters that end there.
abbrev pub view_start : ℕ → MeantEvent → ℕ
view_start place (Message kinds.Text text) = text_part (place - 8) text
view_start place event = place - 8

-- The payload from there on.
abbrev pub payload_on : ℕ → MeantEvent → List ℕ
payload_on place event = drop (view_start place event) (payload_in event)

-- The number of the bytes of this that are shown: in a text whole characters up to n bytes from the place on, otherwise
-- n/2 bytes from it on.
abbrev pub part_length : ℕ → ℕ → MeantEvent → ℕ
part_length n place (Message kinds.Text text) =
    text_part (place - view_start place (Message kinds.Text text) + n) (payload_on place (Message kinds.Text text))
part_length n place event = place - view_start place event + n / 2

-- Those bytes.
abbrev pub part_at : ℕ → ℕ → MeantEvent → List ℕ
part_at n place event = take (part_length n place event) (payload_on place event)

-- ---- what the argument of the functions represents

-- The event is a text message.
abbrev pub is_text : MeantEvent → Bool
is_text (Message kinds.Text text) = true
is_text event = false

-- For a view of n bytes this represents an event's payload around a place.
pub record IsPartOf (n place : ℕ) (part : PayloadPart) (event : MeantEvent) : Type 0 where
  pub text : part.is_text ≡ is_text event
  pub start : part.from ≡ view_start place event
  pub before : part.before ≡ place - view_start place event
  pub holds : IsFrontOf (place - view_start place event + n) (payload_on place event) part.bytes

-- For a view of n bytes this represents the place in two events' payloads and for both; or there is none.
abbrev pub StandsForPlace : ℕ → Option DifferingPayloads → Option ℕ → Option MeantEvent → Option MeantEvent → Type 0
StandsForPlace n (Some differing) (Some place) (Some event) (Some other) =
    (differing.place ≡ place) × IsPartOf n place differing.first event × IsPartOf n place differing.second other
StandsForPlace n None None event other = ⊤
StandsForPlace n differing place event other = ⊥

-- For a view of n bytes this represents where the payloads of two items differ.
abbrev pub StandsForPayloads : ℕ → Option DifferingPayloads → Option Item → Option Item → Type 0
StandsForPayloads n differing one other =
    StandsForPlace n differing (place_in (event_in one) (event_in other)) (event_in one) (event_in other)
