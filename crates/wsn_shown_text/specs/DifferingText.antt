-- What is shown of two events' payloads around the place where they differ: a line, or a member of a JSON object.
use Rattle.std.specs.Prelude.{ℕ, ◌==◌, nat_lt, if◌then◌else◌, Option, Some, List, [], ◌++◌, codes, decimal}
use Rattle.wsn_rules.specs.Meaning.{MeantEvent}
use Rattle.wsn_rules.specs.ShownStream.{Item}
use Rattle.wsn_print.specs.Json.{field}
use Rattle.wsn_print.specs.DifferingPayloads.{place_in, view_start, event_in}
use Rattle.wsn_shown_text.specs.declared.fields.Shape.{Shape, TheVariants.{Line, Object}}
use Rattle.wsn_shown_text.specs.Views.{view_of_part}
use Rattle.wsn_shown_text.specs.ShownText.{seen_text}
use Rattle.wsn_shown_text.specs.ShownObjects.{view_fields}

-- What is in front of a view that begins at this place in the payload.
abbrev pub start_in : Shape → ℕ → List ℕ
start_in Line from = if nat_lt 0 from then codes ".." else []
start_in Object from = codes "{\"from\":" ++ decimal from

-- ---- the line

-- The view around a place, with `..` in front if it doesn't begin with the payload. None is shown if n is 0.
abbrev pub view_at : ℕ → ℕ → MeantEvent → List ℕ
view_at n place event =
    if n == 0 then codes "-"
    else start_in Line (view_start place event) ++ seen_text (view_of_part n place event)

-- The place, and the view of both payloads.
abbrev pub place_line : ℕ → Option ℕ → Option MeantEvent → Option MeantEvent → List ℕ
place_line n (Some place) (Some event) (Some other) =
    codes "differ-at " ++ decimal place ++ codes " " ++ view_at n place event ++ codes " " ++ view_at n place other
    ++ codes "\n"
place_line n place event other = []

-- ---- the member

-- The view around a place, and where it begins. It is null if n is 0.
abbrev pub view_value : ℕ → ℕ → MeantEvent → List ℕ
view_value n place event =
    if n == 0 then codes "null"
    else start_in Object (view_start place event) ++ view_fields (view_of_part n place event) ++ codes "}"

-- The place, and the view of both payloads.
abbrev pub place_value : ℕ → Option ℕ → Option MeantEvent → Option MeantEvent → List ℕ
place_value n (Some place) (Some event) (Some other) =
    codes "{\"in_payload\":" ++ decimal place ++ codes ",\"first\":" ++ view_value n place event
    ++ codes ",\"second\":" ++ view_value n place other ++ codes "}"
place_value n place event other = codes "null"

-- ---- in either shape

-- The view around a place.
abbrev pub part_in : Shape → ℕ → ℕ → MeantEvent → List ℕ
part_in Line = view_at
part_in Object = view_value

-- The place, and the view of both payloads.
abbrev pub parts_in : Shape → ℕ → Option ℕ → Option MeantEvent → Option MeantEvent → List ℕ
parts_in Line n place event other = place_line n place event other
parts_in Object n place event other = field (codes "differ_at") (place_value n place event other)

-- What is printed of two items: no line, and null in the member, unless both are events and their payloads differ.
abbrev pub differ_in : Shape → ℕ → Option Item → Option Item → List ℕ
differ_in shape n one other =
    parts_in shape n (place_in (event_in one) (event_in other)) (event_in one) (event_in other)

abbrev pub differ_line : ℕ → Option Item → Option Item → List ℕ
differ_line = differ_in Line

abbrev pub differ_field : ℕ → Option Item → Option Item → List ℕ
differ_field = differ_in Object
