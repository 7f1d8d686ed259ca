-- What is printed in each format of streams and captures, with its LF.
use Rattle.std.specs.Prelude.{ℕ, Bool, if◌then◌else◌, Option, None, Some, List, [], ◌++◌, flat_map, codes, decimal}
use Rattle.wsn_wire.specs.declared.endpoint.Role.{Role}
use Rattle.wsn_rules.specs.ShownStream.{Item}
use Rattle.wsn_rules.specs.ShownCapture.{LineItem, ShownLine}
use Rattle.wsn_rules.specs.ShownCapture.LineItem.{OfStream, End, Comment}
use Rattle.wsn_rules.specs.ShownOffsets.{offset_of}
use Rattle.wsn_print.specs.declared.format.Format.{Format, TheVariants.{Text, People, Json}}
use Rattle.wsn_shown_text.specs.declared.fields.Shape.{Shape, TheVariants.{Line, Object}}
use Rattle.wsn_print.specs.EscapedText.{comment_line}
use Rattle.wsn_print.specs.ShownParts.{EntryPosition, time_at, number_at}
use Rattle.wsn_print.specs.ShownParts.EntryPosition.{InLine}
use Rattle.wsn_shown_text.specs.Views.{PayloadView}
use Rattle.wsn_shown_text.specs.Members.{Member, members, item_type}
use Rattle.wsn_shown_text.specs.ShownText.{view_text, member_text, role_letter, time_text, end_line}
use Rattle.wsn_shown_text.specs.CharacterText.{item_lines}
use Rattle.wsn_shown_text.specs.PeopleText.{people_line, people_end_line}
use Rattle.wsn_shown_text.specs.ShownObjects.{truncated_field, view_fields, member_field, object_front, item_object, end_object, comment_object}
use Rattle.wsn_print.specs.Json.{number_field}

-- An item of an endpoint's stream, with views of at most n bytes.
abbrev pub item_entry : Format → ℕ → Role → EntryPosition → Item → List ℕ
item_entry Text n role position item = item_lines n role (time_at position) item
item_entry People n role position item = people_line n role position item
item_entry Json n role position item = item_object n role position item

-- An endpoint's end mark. The offset is the number of bytes that the endpoint sent.
abbrev pub end_entry : Format → Role → EntryPosition → ℕ → List ℕ
end_entry Text role position sent = end_line role (time_at position) sent
end_entry People role position sent = people_end_line role position sent
end_entry Json role position sent = end_object role position sent

-- A comment in the line with this number.
abbrev pub comment_entry : Format → ℕ → List ℕ → List ℕ
comment_entry Text number text = comment_line text
comment_entry People number text = comment_line text
comment_entry Json number text = comment_object number text

-- An item of a capture's line.
abbrev pub line_item_entry : Format → ℕ → EntryPosition → LineItem → List ℕ
line_item_entry format n position (OfStream role item) = item_entry format n role position item
line_item_entry format n position (End role sent) = end_entry format role position sent
line_item_entry format n position (Comment text) = comment_entry format (number_at position) text

-- What is printed of a line of a capture.
abbrev pub line_entries : Format → ℕ → ShownLine → List ℕ
line_entries format n shown = flat_map (line_item_entry format n (InLine shown.number shown.time)) shown.items

-- ---- the pieces of a line of words, or of an object

-- Such an entry of an item.
abbrev pub item_in : Shape → ℕ → Role → EntryPosition → Item → List ℕ
item_in Line = item_entry Text
item_in Object = item_entry Json

-- Such an end mark.
abbrev pub end_mark_in : Shape → Role → EntryPosition → ℕ → List ℕ
end_mark_in Line = end_entry Text
end_mark_in Object = end_entry Json

-- The endpoint and the time; in an object also the type and the line.
abbrev pub front_in : Shape → List ℕ → Role → EntryPosition → List ℕ
front_in Line kind role position = role_letter role ++ codes " " ++ time_text (time_at position)
front_in Object kind role position = object_front kind role position

-- What is in front of an entry that has a time, which is written by itself.
abbrev pub if_timed : Option (List ℕ) → List ℕ → List ℕ
if_timed (Some seconds) front = front
if_timed None front = []

-- What is in front of any other, which is in one line with its fields.
abbrev pub if_untimed : Option (List ℕ) → List ℕ → List ℕ
if_untimed (Some seconds) front = []
if_untimed None front = front

-- The offset.
abbrev pub offset_in : Shape → ℕ → List ℕ
offset_in Line offset = codes " " ++ decimal offset
offset_in Object offset = number_field (codes "offset") offset

-- A member.
abbrev pub member_in : Shape → Member → List ℕ
member_in Line = member_text
member_in Object = member_field

-- Members, in order.
abbrev pub members_in : Shape → List Member → List ℕ
members_in shape members = flat_map (member_in shape) members

-- An item without its end.
abbrev pub open_entry : Shape → ℕ → Role → EntryPosition → Item → List ℕ
open_entry shape n role position item =
    front_in shape (item_type item) role position ++ offset_in shape (offset_of item)
    ++ members_in shape (members n item)

-- What is in front of a view, and the view.
abbrev pub space_in : Shape → List ℕ
space_in Line = codes " "
space_in Object = []

abbrev pub seen_in : Shape → ℕ → PayloadView → List ℕ
seen_in Line n view = view_text n view
seen_in Object n view = view_fields view

-- What is in front of a text that is shown, and what is after it if there is more.
abbrev pub text_key_in : Shape → List ℕ
text_key_in Line = []
text_key_in Object = codes ",\"text\":"

abbrev pub more_in : Shape → Bool → List ℕ
more_in Line more = if more then codes " .." else []
more_in Object more = truncated_field more

-- The first text in a line, the second in an object.
abbrev pub piece_in : Shape → List ℕ → List ℕ → List ℕ
piece_in Line line object = line
piece_in Object line object = object

-- The end.
abbrev pub end_in : Shape → List ℕ
end_in Line = codes "\n"
end_in Object = codes "}\n"
