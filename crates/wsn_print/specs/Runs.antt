-- Texts of which most bytes are copied as they are, and a few characters are escaped.
use Rattle.std.specs.Prelude.{◌≡◌, ℕ, zero, suc, ◌+◌, ◌*◌, ◌/◌, ◌%◌, ◌<◌, ◌==◌, ◌&&◌, ◌||◌, nat_le, nat_lt, Bool, not, if◌then◌else◌, Option, None, Some, List, [], ◌∷◌, ◌++◌, get_or, bit_and}
use Rattle.wsn_print.specs.declared.escapes.Escapes.{Escapes, TheVariants.{Comment, Quoted}}
use Rattle.wsn_print.specs.declared.escapes.TheConstants.{FIRST_HIGH, FIRST_LOW, SECOND_LOW}
use Rattle.wsn_print.specs.EscapedText.{is_continuation, is_from, is_hidden, ascii_escape, comment_character, quoted_character}

-- A character as it is written.
abbrev pub escaped_character : Escapes → ℕ → List ℕ
escaped_character Comment c = comment_character c
escaped_character Quoted c = quoted_character c

-- The byte is a character that is escaped by a backslash before it.
abbrev pub takes_backslash : Escapes → ℕ → Bool
takes_backslash Comment b = b == 92
takes_backslash Quoted b = b == 34 || b == 92

-- ---- where a hidden character may begin

-- The classes of a byte, by its first half and by its second half, and those of the byte after it, by its second half.
abbrev pub first_high : ℕ → ℕ
first_high b = get_or FIRST_HIGH (b / 16) 0

abbrev pub first_low : ℕ → ℕ
first_low b = get_or FIRST_LOW (b % 16) 0

abbrev pub second_low : ℕ → ℕ
second_low b = get_or SECOND_LOW (b % 16) 0

-- The classes of two bytes, a bit for each. If there is none, no hidden character begins with them.
abbrev pub class_of : ℕ → ℕ → ℕ
class_of b second = bit_and (bit_and (first_high b) (first_low b)) (second_low second)

abbrev pub may_hide : ℕ → Bool
may_hide class = not (class == 0)

abbrev pub is_plain : ℕ → Bool
is_plain class = not (may_hide class)

-- None of the first n bytes of a text is of a class. A byte that isn't there counts as 0.
abbrev pub IsPlainUpTo : ℕ → List ℕ → Type 0
IsPlainUpTo n text = (i : ℕ) → i < n → class_of (get_or text i 0) (get_or text (suc i) 0) ≡ 0

-- ---- the hidden character that begins there

-- The character and the number of its bytes after the first, if it is hidden and not below the least of those with as
-- many bytes.
abbrev pub hidden_from : ℕ → ℕ → ℕ → Option (ℕ × ℕ)
hidden_from least c more = if nat_le least c && is_hidden c then Some (c, more) else None

-- The hidden character that begins with these bytes, and the number of its bytes after the first. A byte that isn't
-- there counts as 0. RFC 3629 section 3.
abbrev pub hidden_of : ℕ → ℕ → ℕ → ℕ → Option (ℕ × ℕ)
hidden_of b second third fourth =
    if nat_lt b 0x80 then hidden_from 0 b 0
    else if is_from 0xc2 0xdf b && is_continuation second then hidden_from 0x80 (b % 32 * 64 + second % 64) 1
    else if is_from 0xe0 0xef b && (is_continuation second && is_continuation third)
    then hidden_from 0x800 ((b % 16 * 64 + second % 64) * 64 + third % 64) 2
    else if is_from 0xf0 0xf4 b && (is_continuation second && (is_continuation third && is_continuation fourth))
    then hidden_from 0x10000 (((b % 8 * 64 + second % 64) * 64 + third % 64) * 64 + fourth % 64) 3
    else None

-- ---- what is written

-- A byte by itself, as it is written.
abbrev pub escaped_byte : Escapes → ℕ → List ℕ
escaped_byte escapes b = if takes_backslash escapes b then 92 ∷ b ∷ [] else b ∷ []

-- How a byte is written that isn't passed over: as an escape, if a hidden character begins with it.
abbrev pub written_of : Escapes → Option (ℕ × ℕ) → ℕ → List ℕ
written_of escapes (Some hidden) b = ascii_escape hidden.0
written_of escapes None b = escaped_byte escapes b

-- The number of bytes that are passed over after it.
abbrev pub more_of : Option (ℕ × ℕ) → ℕ
more_of (Some hidden) = hidden.1
more_of None = 0

-- The hidden character at the start of a text of at least one byte.
abbrev pub hidden_at : ℕ → List ℕ → Option (ℕ × ℕ)
hidden_at b rest = hidden_of b (get_or rest 0 0) (get_or rest 1 0) (get_or rest 2 0)

-- A text as it is written, without some bytes that belong to a character that is written already.
abbrev pub escaped_after : ℕ → Escapes → List ℕ → List ℕ
escaped_after passed escapes [] = []
escaped_after zero escapes (b ∷ rest) =
    written_of escapes (hidden_at b rest) b ++ escaped_after (more_of (hidden_at b rest)) escapes rest
escaped_after (suc passed) escapes (b ∷ rest) = escaped_after passed escapes rest

-- A text as it is written.
abbrev pub escaped : Escapes → List ℕ → List ℕ
escaped escapes text = escaped_after 0 escapes text
