-- How a bad character of a text is shown: with a line of its own after that of the refusal, or as a member of the
-- refusal's object.
use Rattle.std.specs.Prelude.{ℕ, ◌-◌, ◌/◌, ◌==◌, ◌||◌, min, nat_lt, Bool, if◌then◌else◌, Option, None, Some, List, [], ◌∷◌, ◌++◌, length, take, drop, flat_map, codes, decimal}
use Rattle.std.specs.Str.{chars}
use Rattle.std.specs.Str.Lossy.{utf8_valid_len}
use Rattle.hex.specs.Hex.{encode_lower}
use Rattle.wsn_wire.specs.declared.endpoint.Role.{Role}
use Rattle.wsn_rules.specs.BadCharacter.{BadCharacter}
use Rattle.wsn_rules.specs.ShownStream.{Item}
use Rattle.wsn_rules.specs.ShownStream.Item.{RefusedFrame}
use Rattle.wsn_print.specs.Json.{field, string_field, number_field}
use Rattle.wsn_print.specs.EscapedText.{is_continuation, quoted_character, quoted}
use Rattle.wsn_shown_text.specs.ShownText.{front_text, item_line}

-- ---- the text before it

-- The bytes from the first one on that begins a character.
abbrev pub from_character : List ℕ → List ℕ
from_character [] = []
from_character (b ∷ bytes) = if is_continuation b then from_character bytes else b ∷ bytes

-- The whole characters with which the bytes begin.
abbrev pub first_characters : List ℕ → List ℕ
first_characters bytes = take (utf8_valid_len bytes) bytes

-- The last n/2 bytes, at most 2,048.
abbrev pub end_part : ℕ → List ℕ → List ℕ
end_part n bytes = drop (length bytes - min n 4096 / 2) bytes

-- The end of the message up to the offending byte: what is known of it in earlier frames, and then the evidence.
abbrev pub known_text : List ℕ → BadCharacter → List ℕ
known_text evidence character = character.earlier ++ evidence

-- The last n/2 bytes of this text, at most 2,048, without those of the bad character at its end.
abbrev pub bytes_before : ℕ → List ℕ → BadCharacter → List ℕ
bytes_before n evidence character =
    take (length (end_part n (known_text evidence character)) - length character.bytes)
    (end_part n (known_text evidence character))

-- The characters before the bad one that are shown.
abbrev pub text_before : ℕ → List ℕ → BadCharacter → List ℕ
text_before n evidence character = first_characters (from_character (bytes_before n evidence character))

-- Some of the message before the bad character isn't shown.
abbrev pub leaves_out : ℕ → List ℕ → BadCharacter → Bool
leaves_out n evidence character = nat_lt (length (text_before n evidence character)) character.in_payload

-- ---- its line

-- A byte of a bad character: `\x` and two digits.
abbrev pub byte_escape : ℕ → List ℕ
byte_escape b = codes "\\x" ++ encode_lower (b ∷ [])

-- The text up to the offending byte, quoted, with `..` in front if some of the message before isn't shown.
abbrev pub character_text : ℕ → List ℕ → BadCharacter → List ℕ
character_text n evidence character =
    (if leaves_out n evidence character then codes ".." else [])
    ++ (codes "\"" ++ flat_map quoted_character (chars (text_before n evidence character))
    ++ flat_map byte_escape character.bytes ++ codes "\"")

-- The character's bytes, and the text up to them. None of them are shown if n is 0.
abbrev pub character_view : ℕ → List ℕ → BadCharacter → List ℕ
character_view n evidence character =
    if n == 0 then codes "- -"
    else encode_lower character.bytes ++ codes " " ++ character_text n evidence character

-- The line of a bad character, with its place in the payload, after the evidence for its refusal.
abbrev pub character_line : ℕ → Role → Option (List ℕ) → List ℕ → BadCharacter → List ℕ
character_line n role time evidence character =
    front_text role time character.offset ++ codes " bad-character " ++ decimal character.in_payload ++ codes " "
    ++ character_view n evidence character ++ codes "\n"

-- The same if there is one.
abbrev pub character_lines : ℕ → Role → Option (List ℕ) → List ℕ → Option BadCharacter → List ℕ
character_lines n role time evidence None = []
character_lines n role time evidence (Some character) = character_line n role time evidence character

-- The lines of an item of an endpoint's stream: of a text that is refused for a bad character, this character's follows.
abbrev pub item_lines : ℕ → Role → Option (List ℕ) → Item → List ℕ
item_lines n role time (RefusedFrame offset refusal evidence character) =
    item_line n role time (RefusedFrame offset refusal evidence character)
    ++ character_lines n role time evidence character
item_lines n role time item = item_line n role time item

-- ---- its object

-- The bytes that are shown. None of them are if n is 0.
abbrev pub shown_bytes : ℕ → BadCharacter → List ℕ
shown_bytes n character = if n == 0 then [] else character.bytes

-- A member follows if some of the message before the bad character isn't shown.
abbrev pub truncated_text : ℕ → List ℕ → BadCharacter → List ℕ
truncated_text n evidence character =
    if n == 0 || leaves_out n evidence character then codes ",\"truncated\":true" else []

-- The object of a bad character: where it is, its bytes, and the text before it.
abbrev pub character_object : ℕ → List ℕ → BadCharacter → List ℕ
character_object n evidence character =
    codes "{\"offset\":" ++ decimal character.offset ++ number_field (codes "in_payload") character.in_payload
    ++ string_field (codes "hex") (encode_lower (shown_bytes n character))
    ++ field (codes "before") (quoted (text_before n evidence character)) ++ truncated_text n evidence character
    ++ codes "}"

-- The member of a refusal's object, if there is a bad character.
abbrev pub character_fields : ℕ → List ℕ → Option BadCharacter → List ℕ
character_fields n evidence None = []
character_fields n evidence (Some character) = field (codes "character") (character_object n evidence character)
