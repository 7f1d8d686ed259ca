-- What is shown of payloads, whatever the format: chosen here, and written in `ShownText`, `ShownObjects` and
-- `DifferingText`.
use Rattle.std.specs.Prelude.{ℕ, ◌+◌, ◌*◌, ◌-◌, ◌/◌, ◌==◌, ◌&&◌, nat_lt, Bool, true, false, if◌then◌else◌, List, [], ◌∷◌, length, take, drop, ⊤}
use Rattle.std.specs.Str.{IsUtf8}
use Rattle.wsn_wire.specs.declared.opcode.Kind.{Kind}
use Rattle.wsn_wire.specs.declared.opcode.Kind.TheVariants as kinds
use Rattle.wsn_wire.specs.declared.opcode.Op.{Op}
use Rattle.wsn_wire.specs.declared.opcode.Op.TheVariants as ops
use Rattle.wsn_rules.specs.Meaning.{MeantEvent, Message, Control}
use Rattle.wsn_print.specs.DifferingPayloads.{payload_on, part_length, part_at}
use Rattle.wsn_print.specs.EscapedText.{is_from}
use Rattle.wsn_print.specs.ShownParts.{text_part}
use Rattle.wsn_shown_text.specs.declared.views.View.{View}
use Rattle.wsn_shown_text.specs.declared.views.Ending as end
use Rattle.wsn_shown_text.specs.declared.views.Shown as held
use Rattle.wsn_shown_text.specs.declared.views.Shown.TheVariants as shown

-- ---- views

-- What is shown of a payload.
pub data Shown : Type 0 where
  -- The first bytes of a text.
  Text : List ℕ → Shown
  -- Bytes of a text, of which only printable ASCII characters are shown as they are.
  Ascii : List ℕ → Shown
  -- Bytes in hexadecimal.
  Hex : List ℕ → Shown
  -- A Close's code and reason.
  Code : ℕ → List ℕ → Shown
  -- That a Close has no code, or none that is shown.
  NoCode : Shown

-- What is shown of a payload, and whether there is more.
pub record PayloadView : Type 0 where
  pub shown : Shown
  pub more : Bool

-- A text's first bytes: at most n, whole characters.
abbrev pub view_of_text : ℕ → List ℕ → PayloadView
view_of_text n text = record {
  shown = Text (take (text_part n text) text);
  more = nat_lt (text_part n text) (length text);
}

-- The first n/2 bytes.
abbrev pub view_of_bytes : ℕ → List ℕ → PayloadView
view_of_bytes n bytes = record { shown = Hex (take (n / 2) bytes); more = nat_lt (n / 2) (length bytes) }

-- The last bytes of some, and whether there are more before them.
pub record EndView : Type 0 where
  pub bytes : List ℕ
  pub more : Bool

-- The last n/2 bytes.
abbrev pub view_of_end : ℕ → List ℕ → EndView
view_of_end n bytes = record {
  bytes = drop (length bytes - n / 2) bytes;
  more = nat_lt (n / 2) (length bytes);
}

-- All bytes are printable ASCII characters.
abbrev pub is_printable : List ℕ → Bool
is_printable [] = true
is_printable (b ∷ bytes) = is_from 0x20 0x7e b && is_printable bytes

-- A ping's or pong's body: a text if all of it is printable.
abbrev pub view_of_body : ℕ → List ℕ → PayloadView
view_of_body n body = if is_printable body then view_of_text n body else view_of_bytes n body

-- A Close's code and reason, whole. Of a body that isn't empty, none is shown if n is 0.
abbrev pub view_of_close : ℕ → List ℕ → PayloadView
view_of_close n (high ∷ low ∷ reason) =
    if n == 0 then record { shown = NoCode; more = true }
    else record { shown = Code (high * 256 + low) reason; more = false }
view_of_close n body = record { shown = NoCode; more = false }

-- A control's body.
abbrev pub view_of_control : ℕ → Op → List ℕ → PayloadView
view_of_control n ops.Close body = view_of_close n body
view_of_control n op body = view_of_body n body

-- A message's payload.
abbrev pub view_of_message : ℕ → Kind → List ℕ → PayloadView
view_of_message n kinds.Text payload = view_of_text n payload
view_of_message n kinds.Binary payload = view_of_bytes n payload

-- What is shown of an event's payload.
abbrev pub view_of_event : ℕ → MeantEvent → PayloadView
view_of_event n (Message kind payload) = view_of_message n kind payload
view_of_event n (Control op body) = view_of_control n op body

-- What is shown of the payload of an event that isn't complete.
abbrev pub view_of_unfinished : ℕ → MeantEvent → PayloadView
view_of_unfinished n (Message kind payload) = view_of_message n kind payload
view_of_unfinished n (Control op body) = view_of_bytes n body

-- The bytes that are shown around the place where an event's payload differs from another one.
abbrev pub shown_of_part : MeantEvent → List ℕ → Shown
shown_of_part (Message kinds.Text text) part = Ascii part
shown_of_part event part = Hex part

-- What is shown of an event's payload around that place.
abbrev pub view_of_part : ℕ → ℕ → MeantEvent → PayloadView
view_of_part n place event = record {
  shown = shown_of_part event (part_at n place event);
  more = nat_lt (part_length n place event) (length (payload_on place event));
}

-- ---- what the functions hold

-- What is held to be shown.
abbrev pub shown_in : held.Shown → Shown
shown_in (shown.Text text) = Text text.now
shown_in (shown.Ascii text) = Ascii text.now
shown_in (shown.Hex bytes) = Hex bytes.now
shown_in (shown.Code code reason) = Code code reason.now
shown_in shown.NoCode = NoCode

-- The view that is held.
abbrev pub view_in : View → PayloadView
view_in view = record { shown = shown_in view.shown; more = view.more }

-- The last bytes that are held.
abbrev pub end_in : end.Ending → EndView
end_in last = record { bytes = last.bytes.now; more = last.more }

-- What is quoted is UTF-8.
abbrev pub IsReadable : Shown → Type 0
IsReadable (Text text) = IsUtf8 text
IsReadable (Code code reason) = IsUtf8 reason
IsReadable shown = ⊤
