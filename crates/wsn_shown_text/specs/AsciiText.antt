-- A text of which only printable ASCII characters are shown as they are.
use Rattle.std.specs.Prelude.{ℕ, ◌==◌, ◌||◌, if◌then◌else◌, List, [], ◌∷◌, ◌++◌, flat_map, codes}
use Rattle.std.specs.Str.{chars}
use Rattle.wsn_print.specs.EscapedText.{is_from, ascii_escape}

-- A character: as it is if it is printable, with a backslash before `"` and `\`, and otherwise by its number.
abbrev pub ascii_character : ℕ → List ℕ
ascii_character c =
    if c == 34 || c == 92 then 92 ∷ c ∷ [] else (if is_from 0x20 0x7e c then c ∷ [] else ascii_escape c)

-- A text in UTF-8, between quotation marks.
abbrev pub ascii_quoted : List ℕ → List ℕ
ascii_quoted text = codes "\"" ++ flat_map ascii_character (chars text) ++ codes "\""
