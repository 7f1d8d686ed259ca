-- The lines of `show`, each with its LF: entries of what both sides sent, and end marks. (Comments are in `EscapedText`.)
use Rattle.std.specs.Prelude.{ℕ, ◌==◌, ◌&&◌, if◌then◌else◌, Option, None, Some, List, [], ◌∷◌, ◌++◌, flat_map, codes, decimal}
use Rattle.hex.specs.Hex.{encode_lower}
use Rattle.wsn_wire.specs.declared.endpoint.Role.{Role, TheVariants.{Client, Server}}
use Rattle.wsn_rules.specs.Meaning.{MeantEvent}
use Rattle.wsn_rules.specs.ShownStream.{Item}
use Rattle.wsn_rules.specs.ShownOffsets.{offset_of}
use Rattle.wsn_print.specs.Fields.{number_text, refusal_text}
use Rattle.wsn_print.specs.HeadText.{head_fields}
use Rattle.wsn_print.specs.EscapedText.{quoted}
use Rattle.wsn_shown_text.specs.AsciiText.{ascii_quoted}
use Rattle.wsn_shown_text.specs.Members.{Member, members, end_members}
use Rattle.wsn_shown_text.specs.Members.Member.{Mark, Word, Number, Lacks, Frame, Refused, Seen, Ending, Bad}
use Rattle.wsn_shown_text.specs.Views.{Shown, PayloadView, EndView, view_of_text, view_of_bytes, view_of_end, view_of_body, view_of_event, view_of_unfinished}
use Rattle.wsn_shown_text.specs.Views.Shown.{Text, Ascii, Hex, Code, NoCode}

-- ---- views

-- Bytes in hexadecimal; a dash for none.
abbrev pub hex_text : List ℕ → List ℕ
hex_text [] = codes "-"
hex_text (b ∷ bytes) = encode_lower (b ∷ bytes)

-- A Close's reason, quoted, after a space; nothing without one.
abbrev pub reason_text : List ℕ → List ℕ
reason_text [] = []
reason_text (b ∷ reason) = codes " " ++ quoted (b ∷ reason)

-- A text is quoted, and bytes are in hexadecimal.
abbrev pub shown_text : Shown → List ℕ
shown_text (Text text) = quoted text
shown_text (Ascii text) = ascii_quoted text
shown_text (Hex bytes) = hex_text bytes
shown_text (Code code reason) = decimal code ++ reason_text reason
shown_text NoCode = codes "-"

-- With ` ..` after it if there is more.
abbrev pub seen_text : PayloadView → List ℕ
seen_text view = shown_text view.shown ++ (if view.more then codes " .." else [])

-- A view of at most n bytes. If n is 0, a dash is shown of what isn't empty.
abbrev pub view_text : ℕ → PayloadView → List ℕ
view_text n view = if n == 0 && view.more then codes "-" else seen_text view

-- The last bytes in hexadecimal, with `..` in front if there are more. None are shown if n is 0.
abbrev pub end_text : ℕ → EndView → List ℕ
end_text n end =
    if n == 0 then codes "-" else (if end.more then codes ".." else []) ++ encode_lower end.bytes

-- Of a text, of bytes, of the last of some bytes, and of a ping's or pong's body.
abbrev pub text_view : ℕ → List ℕ → List ℕ
text_view n text = view_text n (view_of_text n text)

abbrev pub hex_view : ℕ → List ℕ → List ℕ
hex_view n bytes = view_text n (view_of_bytes n bytes)

abbrev pub end_view : ℕ → List ℕ → List ℕ
end_view n bytes = end_text n (view_of_end n bytes)

abbrev pub body_view : ℕ → List ℕ → List ℕ
body_view n body = view_text n (view_of_body n body)

-- What is shown of an event's payload.
abbrev pub event_view : ℕ → MeantEvent → List ℕ
event_view n event = view_text n (view_of_event n event)

-- What is shown of the payload of an event that isn't complete.
abbrev pub unfinished_view : ℕ → MeantEvent → List ℕ
unfinished_view n event = view_text n (view_of_unfinished n event)

-- ---- entries

-- A member, after a space.
abbrev pub member_text : Member → List ℕ
member_text (Mark word) = codes " " ++ word
member_text (Word name word) = codes " " ++ word
member_text (Number name number) = codes " " ++ decimal number
member_text (Lacks lacks) = codes " lacks " ++ number_text lacks
member_text (Frame head) = codes " " ++ head_fields head
member_text (Refused refusal) = codes " " ++ refusal_text refusal
member_text (Seen n view) = codes " " ++ view_text n view
member_text (Ending n end) = codes " " ++ end_text n end
member_text (Bad n evidence character) = []

-- The letter of an endpoint.
abbrev pub role_letter : Role → List ℕ
role_letter Client = codes "C"
role_letter Server = codes "S"

-- A time as the capture gives it; a dash if there is none.
abbrev pub time_text : Option (List ℕ) → List ℕ
time_text None = codes "-"
time_text (Some seconds) = seconds

-- What is in front of each entry: the endpoint, the time, and an offset in the endpoint's stream.
abbrev pub front_text : Role → Option (List ℕ) → ℕ → List ℕ
front_text role time offset = role_letter role ++ codes " " ++ time_text time ++ (codes " " ++ decimal offset)

-- The line of an item of an endpoint's stream, with views of at most n bytes.
abbrev pub item_line : ℕ → Role → Option (List ℕ) → Item → List ℕ
item_line n role time item =
    front_text role time (offset_of item) ++ flat_map member_text (members n item) ++ codes "\n"

-- The line of an endpoint's end mark. The offset is the number of bytes that the endpoint sent.
abbrev pub end_line : Role → Option (List ℕ) → ℕ → List ℕ
end_line role time sent = front_text role time sent ++ flat_map member_text end_members ++ codes "\n"
