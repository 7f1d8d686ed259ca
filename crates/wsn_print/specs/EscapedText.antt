-- Texts in which what a terminal hides is escaped: quoted texts, and comments.
use Rattle.std.specs.Prelude.{ℕ, ◌+◌, ◌-◌, ◌/◌, ◌%◌, ◌==◌, ◌&&◌, ◌||◌, nat_le, nat_lt, Bool, false, if◌then◌else◌, List, [], ◌∷◌, ◌++◌, length, flat_map, codes}
use Rattle.std.specs.Char.{encode_utf8}
use Rattle.std.specs.Str.{chars}
use Rattle.std.specs.Str.Lossy.{utf8_valid_len}
use Rattle.hex.specs.Hex.{encode_lower}

-- ---- characters

-- The number is from low to high.
abbrev pub is_from : ℕ → ℕ → ℕ → Bool
is_from low high c = nat_le low c && nat_le c high

-- The number is in one of these ranges, from their first number to their last.
abbrev pub is_in : List (ℕ × ℕ) → ℕ → Bool
is_in [] c = false
is_in (range ∷ ranges) c = is_from range.0 range.1 c || is_in ranges c

-- The control characters, the separators of lines and paragraphs, and Unicode's Default_Ignorable_Code_Point, but for the
-- joiners U+200C and U+200D and the variation selectors, which shape the characters beside them.
abbrev pub hidden_ranges : List (ℕ × ℕ)
hidden_ranges =
    (0x00, 0x1f) ∷ (0x7f, 0x7f) ∷ (0x80, 0x9f) ∷ (0xad, 0xad) ∷ (0x34f, 0x34f) ∷ (0x61c, 0x61c) ∷ (0x115f, 0x1160)
    ∷ (0x17b4, 0x17b5) ∷ (0x180e, 0x180e) ∷ (0x200b, 0x200b) ∷ (0x200e, 0x200f) ∷ (0x2028, 0x202e) ∷ (0x2060, 0x206f)
    ∷ (0x3164, 0x3164) ∷ (0xfeff, 0xfeff) ∷ (0xffa0, 0xffa0) ∷ (0xfff0, 0xfff8) ∷ (0x1bca0, 0x1bca3)
    ∷ (0x1d173, 0x1d17a) ∷ (0xe0000, 0xe00ff) ∷ (0xe01f0, 0xe0fff) ∷ []

-- The character has no shape of its own: it moves a terminal's cursor, changes how the text around it is shown, or isn't
-- seen at all.
abbrev pub is_hidden : ℕ → Bool
is_hidden c = is_in hidden_ranges c

-- A number below 0x10000: `\u` and four lower-case hexadecimal digits.
abbrev pub unicode_escape : ℕ → List ℕ
unicode_escape c = codes "\\u" ++ encode_lower (c / 256 ∷ c % 256 ∷ [])

-- A character by its number: below U+10000 in four hexadecimal digits, otherwise as two surrogates. RFC 8259 section 7.
abbrev pub ascii_escape : ℕ → List ℕ
ascii_escape c =
    if nat_lt c 0x10000 then unicode_escape c
    else unicode_escape (0xd800 + (c - 0x10000) / 0x400) ++ unicode_escape (0xdc00 + (c - 0x10000) % 0x400)

-- A character, escaped if it is hidden.
abbrev pub shown_character : ℕ → List ℕ
shown_character c = if is_hidden c then ascii_escape c else encode_utf8 c

-- The byte continues a character.
abbrev pub is_continuation : ℕ → Bool
is_continuation b = is_from 0x80 0xbf b

-- ---- quoted texts

-- A character in a quoted text.
abbrev pub quoted_character : ℕ → List ℕ
quoted_character c = if c == 34 || c == 92 then 92 ∷ c ∷ [] else shown_character c

-- A text in UTF-8, between quotation marks.
abbrev pub quoted : List ℕ → List ℕ
quoted text = codes "\"" ++ flat_map quoted_character (chars text) ++ codes "\""

-- ---- comments

-- A character in a comment: a backslash is doubled, since an escape begins with one.
abbrev pub comment_character : ℕ → List ℕ
comment_character c = if c == 92 then 92 ∷ c ∷ [] else shown_character c

-- A byte of a comment that isn't UTF-8: `\x` and two digits, unless it is printable. A backslash is doubled.
abbrev pub comment_byte : ℕ → List ℕ
comment_byte b =
    if b == 92 then 92 ∷ b ∷ [] else if is_from 0x20 0x7e b then b ∷ [] else codes "\\x" ++ encode_lower (b ∷ [])

-- A comment as it is, with its hidden characters escaped, or its bytes if it isn't UTF-8, and each backslash doubled.
abbrev pub comment_text : List ℕ → List ℕ
comment_text text =
    if utf8_valid_len text == length text then flat_map comment_character (chars text) else flat_map comment_byte text

-- The line of a comment.
abbrev pub comment_line : List ℕ → List ℕ
comment_line text = comment_text text ++ codes "\n"
