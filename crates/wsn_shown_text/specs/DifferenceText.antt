-- What is printed of two streams that differ, with the first event of each that does: lines, or a JSON object in one
-- line, each with its LF.
use Rattle.std.specs.Prelude.{ℕ, Option, None, Some, List, ◌++◌, codes}
use Rattle.wsn_wire.specs.declared.endpoint.Role.{Role}
use Rattle.wsn_rules.specs.declared.compared.Compared.TheVariants.{Different}
use Rattle.wsn_rules.specs.ShownStream.{Item}
use Rattle.wsn_print.specs.declared.format.Format.{Format, TheVariants.{Text, People, Json}}
use Rattle.wsn_print.specs.VerdictText.{comparison_line}
use Rattle.wsn_shown_text.specs.declared.fields.Shape.{Shape, TheVariants.{Line, Object}}
use Rattle.wsn_shown_text.specs.DifferingText.{differ_line, differ_field}
use Rattle.wsn_print.specs.Json.{field, string_field, number_field}
use Rattle.wsn_shown_text.specs.ShownText.{item_line}
use Rattle.wsn_shown_text.specs.ShownObjects.{open_object}
use Rattle.wsn_print.specs.ShownParts.EntryPosition.{InStream}

-- The answer: a line, or the first members of an object.
abbrev pub answer_in : Shape → ℕ → List ℕ
answer_in Line k = comparison_line (Different k)
answer_in Object k =
    codes "{\"type\":\"comparison\"" ++ string_field (codes "answer") (codes "different") ++ number_field (codes "event") k

-- An event of one of the streams; a dash if it has no more events.
abbrev pub event_line : ℕ → Role → Option Item → List ℕ
event_line n role None = codes "-\n"
event_line n role (Some item) = item_line n role None item

-- The answer's line, a line for each stream's event, and where the payloads differ.
abbrev pub difference_lines : ℕ → Role → ℕ → Option Item → Option Item → List ℕ
difference_lines n role k one other =
    answer_in Line k ++ (codes "first " ++ event_line n role one)
    ++ (codes "second " ++ event_line n role other) ++ differ_line n one other

-- The object of an event of one of the streams, without its LF; null if it has no more events.
abbrev pub event_value : ℕ → Role → Option Item → List ℕ
event_value n role None = codes "null"
event_value n role (Some item) = open_object n role InStream item ++ codes "}"

-- The answer's members, one for each stream's event, and where the payloads differ.
abbrev pub difference_object : ℕ → Role → ℕ → Option Item → Option Item → List ℕ
difference_object n role k one other =
    answer_in Object k ++ field (codes "first") (event_value n role one)
    ++ field (codes "second") (event_value n role other)
    ++ differ_field n one other ++ codes "}\n"

-- In either shape: an event, and the whole.
abbrev pub compared_event_in : Shape → ℕ → Role → Option Item → List ℕ
compared_event_in Line = event_line
compared_event_in Object = event_value

abbrev pub difference_in : Shape → ℕ → Role → ℕ → Option Item → Option Item → List ℕ
difference_in Line = difference_lines
difference_in Object = difference_object

-- In a format.
abbrev pub difference_text : Format → ℕ → Role → ℕ → Option Item → Option Item → List ℕ
difference_text Text = difference_lines
difference_text People = difference_lines
difference_text Json = difference_object
