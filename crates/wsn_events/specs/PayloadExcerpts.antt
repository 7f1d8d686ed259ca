-- What is kept of two payloads around the place where they differ.
use Rattle.std.specs.Prelude.{◌≡◌, ℕ, ◌-◌, ◌≤◌, Option, None, Some, length, take, ⊤}
use Rattle.wsn_rules.specs.LawfulEvents.{IsLawfulEvent}
use Rattle.wsn_rules.specs.Meaning.{MeantEvent, Message, Control}
use Rattle.wsn_print.specs.DifferingPayloads.{place_in, is_text, view_start, payload_on}
use Rattle.wsn_events.specs.declared.payload.Payload.{Payload}
use Rattle.wsn_events.specs.declared.payload.Payload.TheVariants as payloads
use Rattle.wsn_events.specs.declared.payload_difference.PayloadDifference.{PayloadDifference}
use Rattle.wsn_events.specs.declared.payload_difference.PayloadExcerpt.{PayloadExcerpt}
use Rattle.wsn_events.specs.Turns.{MeantTurn, OfEvent, OfVerdict}

-- the event whose payload this is
abbrev pub meant_payload : Payload → MeantEvent
meant_payload (payloads.Message kind text) = Message kind text.now
meant_payload (payloads.Control op body) = Control op body.items

abbrev pub meant_payloads : Option Payload → Option MeantEvent
meant_payloads None = None
meant_payloads (Some payload) = Some (meant_payload payload)

-- The event is lawful, if there is one.
abbrev pub IsLawfulIfAny : Option MeantEvent → Type 0
IsLawfulIfAny None = ⊤
IsLawfulIfAny (Some event) = IsLawfulEvent event

-- the event of a turn
abbrev pub event_given : MeantTurn → Option MeantEvent
event_given (OfEvent event) = Some event
event_given (OfVerdict verdict) = None

-- This is kept of an event's payload around a place: from where its view begins on, at most 11 bytes before the place,
-- the first 4,107 bytes.
pub record IsPartKept (place : ℕ) (excerpt : PayloadExcerpt) (event : MeantEvent) : Type 0 where
  pub text : excerpt.is_text ≡ is_text event
  pub start : excerpt.from ≡ view_start place event
  pub before : excerpt.before ≡ place - view_start place event
  pub near : place - view_start place event ≤ 11
  pub size : excerpt.bytes ≡ length (payload_on place event)
  pub first : excerpt.held.items ≡ take 4107 (payload_on place event)

-- This is kept of the place in two events' payloads and of both; or there is none.
abbrev pub ArePartsKept : Option PayloadDifference → Option ℕ → Option MeantEvent → Option MeantEvent → Type 0
ArePartsKept (Some difference) (Some place) (Some event) (Some other) =
    (difference.place ≡ place) × IsPartKept place difference.first event × IsPartKept place difference.second other
ArePartsKept None None event other = ⊤
ArePartsKept difference place event other = ⊥

-- This is kept of where the payloads of two events differ.
abbrev pub ArePayloadsKept : Option PayloadDifference → Option MeantEvent → Option MeantEvent → Type 0
ArePayloadsKept difference event other = ArePartsKept difference (place_in event other) event other
