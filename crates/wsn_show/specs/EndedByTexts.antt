-- How it is printed who ended a connection.
use Rattle.std.specs.Prelude.{ℕ, Option, None, Some, List, [], ◌++◌, codes, if◌then◌else◌}
use Rattle.wsn_print.specs.declared.format.Format.{Format, TheVariants.{Text, People, Json}}
use Rattle.wsn_print.specs.Json.{string_field, field, boolean}
use Rattle.wsn_shown_text.specs.ShownObjects.{side_word}
use Rattle.wsn_capture.specs.declared.ended_by.EndedBy.{EndedBy}

-- The line, such as `ended-by server reset`.
abbrev pub ended_by_line : EndedBy → List ℕ
ended_by_line by =
    codes "ended-by " ++ side_word by.role ++ (if by.reset then codes " reset" else []) ++ codes "\n"

-- The object, such as `{"type":"ended-by","side":"server","reset":true}`.
abbrev pub ended_by_object : EndedBy → List ℕ
ended_by_object by =
    codes "{\"type\":\"ended-by\"" ++ string_field (codes "side") (side_word by.role)
    ++ field (codes "reset") (boolean by.reset) ++ codes "}\n"

-- In a format; nothing where nothing is said.
abbrev pub ended_by_text : Format → Option EndedBy → List ℕ
ended_by_text format None = []
ended_by_text Text (Some by) = ended_by_line by
ended_by_text People (Some by) = ended_by_line by
ended_by_text Json (Some by) = ended_by_object by
