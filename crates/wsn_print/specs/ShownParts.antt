-- What the arguments of the functions that write entries stand for: times, and bytes of which only a part is held.
use Rattle.std.specs.Prelude.{◌≡◌, ℕ, ◌-◌, ◌≤◌, ◌⊎◌, ⊤, Option, None, Some, option_copied, List, length, take, drop, codes}
use Rattle.std.specs.Str.{IsUtf8}
use Rattle.std.specs.Str.Lossy.{utf8_valid_len}
use Rattle.wsn_wire.specs.declared.opcode.Kind.TheVariants as kinds
use Rattle.wsn_wire.specs.declared.opcode.Op.{Op}
use Rattle.wsn_wire.specs.declared.opcode.Op.TheVariants as ops
use Rattle.wsn_text.specs.Utf8.{BeginsText}
use Rattle.wsn_rules.specs.BadCharacter.{BadCharacter}
use Rattle.wsn_rules.specs.Meaning.{MeantEvent, Message, Control}
use Rattle.wsn_rules.specs.ShownStream.{Item}
use Rattle.wsn_rules.specs.ShownStream.Item.{Event, Unread, Tail}
use Rattle.wsn_print.specs.declared.shown.Front.{Front}
use Rattle.wsn_print.specs.declared.shown.Origin.{Origin}
use Rattle.wsn_print.specs.declared.shown.Origin.TheVariants as origins
use Rattle.wsn_print.specs.declared.shown.ShownEvent.{ShownEvent}
use Rattle.wsn_print.specs.declared.shown.PlacedEvent.{PlacedEvent}
use Rattle.wsn_print.specs.declared.shown.HeldBytes.{HeldBytes}
use Rattle.wsn_print.specs.declared.shown.ShownCharacter.{ShownCharacter}
use Rattle.wsn_print.specs.declared.shown.Remainder.{Remainder}
use Rattle.wsn_print.specs.declared.shown.Remainder.TheVariants as remainders

-- ---- where an entry is

-- The time in front of an entry.
abbrev pub time_of : Front → Option (List ℕ)
time_of front = option_copied front.time

-- Where an entry is.
pub data EntryPosition : Type 0 where
  -- In a line of a capture: its number, from 1, and the time that holds for it.
  InLine : ℕ → Option (List ℕ) → EntryPosition
  -- At the end of a capture: the time that held when the endpoint's last bytes came.
  AtEnd : Option (List ℕ) → EntryPosition
  -- In a stream without a capture.
  InStream : EntryPosition

-- The time that is given for a position; none in a stream.
abbrev pub time_at : EntryPosition → Option (List ℕ)
time_at (InLine number time) = time
time_at (AtEnd time) = time
time_at InStream = None

-- The number of the line, from 1; 0 outside of lines.
abbrev pub number_at : EntryPosition → ℕ
number_at (InLine number time) = number
number_at position = 0

-- Where this is.
abbrev pub position_of : Origin → EntryPosition
position_of (origins.Line number time) = InLine number (option_copied time)
position_of (origins.End time) = AtEnd (option_copied time)
position_of origins.Stream = InStream

-- ---- bytes of which a part is held

-- The number of the first bytes of a text that are shown: at most n, whole characters.
abbrev pub text_part : ℕ → List ℕ → ℕ
text_part n text = utf8_valid_len (take n text)

-- The first bytes are held: all, or at least `least` of them.
abbrev pub HoldsFirst : ℕ → List ℕ → List ℕ → Type 0
HoldsFirst least all held =
    (held ≡ take (length held) all) × ((least ≤ length held) ⊎ (length held ≡ length all))

-- The last bytes are held: all, or at least `least` of them.
abbrev pub HoldsLast : ℕ → List ℕ → List ℕ → Type 0
HoldsLast least all held =
    (held ≡ drop (length all - length held) all) × ((least ≤ length held) ⊎ (length held ≡ length all))

-- These are the number and the first bytes of all these bytes, at least `least` of them.
abbrev pub IsFrontOf : ℕ → List ℕ → HeldBytes → Type 0
IsFrontOf least all bytes = (bytes.bytes ≡ length all) × HoldsFirst least all bytes.held.now

-- These are the number and the last bytes of all these bytes, at least `least` of them.
abbrev pub IsEndOf : ℕ → List ℕ → HeldBytes → Type 0
IsEndOf least all bytes = (bytes.bytes ≡ length all) × HoldsLast least all bytes.held.now

-- ---- events

-- The event with this opcode and this payload. No event has the opcode of a continuation.
abbrev pub event_of : Op → List ℕ → MeantEvent
event_of ops.Text payload = Message kinds.Text payload
event_of ops.Binary payload = Message kinds.Binary payload
event_of op payload = Control op payload

-- What is held of an event's payload for a view of n bytes: of a message the first bytes, of a control all.
abbrev pub HoldsPayload : ℕ → MeantEvent → List ℕ → Type 0
HoldsPayload n (Message kind payload) held = HoldsFirst n payload held
HoldsPayload n (Control op body) held = held ≡ body

-- For a view of n bytes this represents the event.
pub record Represents (n : ℕ) (shown : ShownEvent) (event : MeantEvent) : Type 0 where
  pub payload : List ℕ
  pub is : event ≡ event_of shown.op payload
  pub size : shown.bytes ≡ length payload
  pub holds : HoldsPayload n event shown.held.now

-- If the event is a Close, its reason, which is after two bytes of code, is UTF-8.
abbrev pub HasTextReason : MeantEvent → Type 0
HasTextReason (Control ops.Close body) = IsUtf8 (drop 2 body)
HasTextReason event = ⊤

-- If the event is a text message, its payload is UTF-8, or begins UTF-8 where it isn't complete.
abbrev pub HasTextPayload : MeantEvent → Type 0
HasTextPayload (Message kinds.Text payload) = BeginsText payload
HasTextPayload event = ⊤

-- A text message has such a payload, and a Close such a reason.
abbrev pub HasText : MeantEvent → Type 0
HasText (Message kind payload) = HasTextPayload (Message kind payload)
HasText (Control op body) = HasTextReason (Control op body)

-- For a view of n bytes this represents the event of these frames at this offset.
pub record IsPlaced (n : ℕ) (placed : PlacedEvent) (offset : ℕ) (event : MeantEvent) (frames : ℕ) : Type 0 where
  pub offset_is : placed.offset ≡ offset
  pub frames_are : placed.event.frames ≡ frames
  pub represents : Represents n placed.event event
  pub text : HasText event

-- For a view of n bytes this represents the item, which is an event; or there is neither.
abbrev pub StandsFor : ℕ → Option PlacedEvent → Option Item → Type 0
StandsFor n None None = ⊤
StandsFor n (Some placed) (Some (Event offset event frames)) = IsPlaced n placed offset event frames
StandsFor n placed item = ⊥

-- ---- bad characters, and bytes in no frame

-- The bad character that this represents.
abbrev pub character_of : ShownCharacter → BadCharacter
character_of shown = record {
  offset = shown.offset;
  in_payload = shown.in_payload;
  bytes = shown.bytes.now;
  earlier = shown.earlier.now;
}

-- The bad character that this represents, if there is one.
abbrev pub character_in : Option ShownCharacter → Option BadCharacter
character_in None = None
character_in (Some shown) = Some (character_of shown)

-- The word for bytes that belong to no frame.
abbrev pub remainder_word : Remainder → List ℕ
remainder_word remainders.Unread = codes "unread"
remainder_word remainders.Tail = codes "tail"

-- The item of bytes that belong to no frame.
abbrev pub item_of_remainder : Remainder → ℕ → List ℕ → Item
item_of_remainder remainders.Unread offset bytes = Unread offset bytes
item_of_remainder remainders.Tail offset bytes = Tail offset bytes
