-- The JSON objects of `show`, one a line, each with its LF: entries of what both sides sent, and comments.
use Rattle.std.specs.Prelude.{ℕ, ◌==◌, Bool, if◌then◌else◌, Some, List, [], ◌∷◌, ◌++◌, length, drop, flat_map, codes}
use Rattle.std.specs.Str.Lossy.{utf8_valid_len}
use Rattle.hex.specs.Hex.{encode_lower}
use Rattle.wsn_wire.specs.declared.endpoint.Role.{Role, TheVariants.{Client, Server}}
use Rattle.wsn_rules.specs.ShownStream.{Item}
use Rattle.wsn_rules.specs.ShownOffsets.{offset_of}
use Rattle.wsn_print.specs.Json.{field, string_field, number_field, number_or_null_field}
use Rattle.wsn_print.specs.Objects.{refusal_fields, head_members}
use Rattle.wsn_shown_text.specs.CharacterText.{character_fields}
use Rattle.wsn_print.specs.EscapedText.{quoted}
use Rattle.wsn_print.specs.ShownParts.{EntryPosition}
use Rattle.wsn_print.specs.ShownParts.EntryPosition.{InLine, AtEnd, InStream}
use Rattle.wsn_shown_text.specs.AsciiText.{ascii_quoted}
use Rattle.wsn_shown_text.specs.Members.{Member, members, end_members, item_type}
use Rattle.wsn_shown_text.specs.Members.Member.{Mark, Word, Number, Lacks, Frame, Refused, Seen, Ending, Bad}
use Rattle.wsn_shown_text.specs.Views.{Shown, PayloadView, EndView}
use Rattle.wsn_shown_text.specs.Views.Shown.{Text, Ascii, Hex, Code, NoCode}

-- ---- views

-- There is more than is shown.
abbrev pub truncated_field : Bool → List ℕ
truncated_field more = if more then codes ",\"truncated\":true" else []

-- Bytes in hexadecimal.
abbrev pub hex_field : List ℕ → List ℕ
hex_field bytes = string_field (codes "hex") (encode_lower bytes)

-- A Close's reason; nothing without one.
abbrev pub reason_field : List ℕ → List ℕ
reason_field [] = []
reason_field (b ∷ reason) = field (codes "reason") (quoted (b ∷ reason))

-- A text is a string, and bytes are one in hexadecimal.
abbrev pub shown_fields : Shown → List ℕ
shown_fields (Text text) = field (codes "text") (quoted text)
shown_fields (Ascii text) = field (codes "text") (ascii_quoted text)
shown_fields (Hex bytes) = hex_field bytes
shown_fields (Code code reason) = number_field (codes "code") code ++ reason_field reason
shown_fields NoCode = codes ",\"code\":null"

-- A view, with a member that follows if there is more.
abbrev pub view_fields : PayloadView → List ℕ
view_fields view = shown_fields view.shown ++ truncated_field view.more

-- The last bytes, likewise.
abbrev pub end_fields : EndView → List ℕ
end_fields end = hex_field end.bytes ++ truncated_field end.more

-- ---- entries

-- The number of the line.
abbrev pub line_field : EntryPosition → List ℕ
line_field (InLine number time) = number_field (codes "line") number
line_field position = []

-- The word for an endpoint.
abbrev pub side_word : Role → List ℕ
side_word Client = codes "client"
side_word Server = codes "server"

-- The key of the time.
abbrev pub time_key : EntryPosition → List ℕ
time_key InStream = []
time_key position = codes ",\"time\":"

-- The time as the capture gives it, which is a number; null if there is none.
abbrev pub time_value : EntryPosition → List ℕ
time_value (InLine number (Some seconds)) = seconds
time_value (AtEnd (Some seconds)) = seconds
time_value InStream = []
time_value position = codes "null"

-- What is in front of each entry: its type, the line, the endpoint and the time.
abbrev pub object_front : List ℕ → Role → EntryPosition → List ℕ
object_front kind role position =
    codes "{\"type\":\"" ++ kind ++ codes "\"" ++ line_field position ++ string_field (codes "side") (side_word role)
    ++ time_key position ++ time_value position

-- A member.
abbrev pub member_field : Member → List ℕ
member_field (Mark word) = []
member_field (Word name word) = string_field name word
member_field (Number name number) = number_field name number
member_field (Lacks lacks) = number_or_null_field (codes "lacks") lacks
member_field (Frame head) = head_members head
member_field (Refused refusal) = refusal_fields (codes "place") refusal
member_field (Seen n view) = view_fields view
member_field (Ending n end) = end_fields end
member_field (Bad n evidence character) = character_fields n evidence character

-- The object of an item of an endpoint's stream without its end, with views of at most n bytes.
abbrev pub open_object : ℕ → Role → EntryPosition → Item → List ℕ
open_object n role position item =
    object_front (item_type item) role position ++ number_field (codes "offset") (offset_of item)
    ++ flat_map member_field (members n item)

-- The object.
abbrev pub item_object : ℕ → Role → EntryPosition → Item → List ℕ
item_object n role position item = open_object n role position item ++ codes "}\n"

-- An endpoint's end mark. The offset is the number of bytes that the endpoint sent.
abbrev pub end_object : Role → EntryPosition → ℕ → List ℕ
end_object role position sent =
    object_front (codes "end") role position ++ number_field (codes "offset") sent ++ flat_map member_field end_members
    ++ codes "}\n"

-- ---- comments

-- A comment's text; of one that isn't UTF-8, its bytes in hexadecimal.
abbrev pub comment_field : List ℕ → List ℕ
comment_field text =
    if utf8_valid_len text == length text then field (codes "text") (quoted text) else hex_field text

-- A comment in the line with this number, from 1: what follows its first byte, which is `#`.
abbrev pub comment_object : ℕ → List ℕ → List ℕ
comment_object number text =
    codes "{\"type\":\"comment\"" ++ number_field (codes "line") number ++ comment_field (drop 1 text) ++ codes "}\n"
