-- The codes that colour a terminal's text (SGR of ECMA-48, section 8.3.117), a text without them, and what they colour.
use Rattle.std.specs.Prelude.{◌≡◌, ℕ, ◌==◌, ◌||◌, ◌&&◌, Bool, true, false, not, List, [], ◌∷◌, ◌++◌, if◌then◌else◌}
use Rattle.std.specs.Char.{is_ascii_digit}
use Rattle.std.specs.List.{list_all}
use Rattle.std.specs.Str.{bytes_eq}

-- A code is ESC, `[`, digits and `;`, and `m`: whether what has begun of one goes on with this byte.
abbrev pub goes_on : List ℕ → ℕ → Bool
goes_on [] byte = byte == 27
goes_on (escape ∷ []) byte = byte == 91
goes_on (escape ∷ bracket ∷ parameters) byte = is_ascii_digit byte || byte == 59

-- whether a code that has begun ends with this byte
abbrev pub ends : List ℕ → ℕ → Bool
ends (escape ∷ bracket ∷ parameters) byte = byte == 109
ends begun byte = false

-- what has begun of a code after this byte
abbrev pub begun_with : List ℕ → ℕ → List ℕ
begun_with begun byte =
    if goes_on begun byte then begun ++ byte ∷ [] else if ends begun byte then [] else if byte == 27 then byte ∷ [] else []

-- What this byte adds to the text: nothing within a code; what had begun and was none, and the byte, unless it is ESC, with
-- which the next may begin.
abbrev pub added_with : List ℕ → ℕ → List ℕ
added_with begun byte =
    if goes_on begun byte then [] else if ends begun byte then [] else if byte == 27 then begun else begun ++ byte ∷ []

-- The text without codes, after what has begun of one. A code that isn't complete at the end is left out, too.
abbrev pub without_after : List ℕ → List ℕ → List ℕ
without_after begun [] = []
without_after begun (byte ∷ text) = added_with begun byte ++ without_after (begun_with begun byte) text

-- The text without codes.
abbrev pub without_codes : List ℕ → List ℕ
without_codes text = without_after [] text

-- what has begun of a code at the end of a text, after what had begun before it
abbrev pub begun_after : List ℕ → List ℕ → List ℕ
begun_after begun [] = begun
begun_after begun (byte ∷ text) = begun_after (begun_with begun byte) text

-- Each code in the text is complete.
abbrev pub IsComplete : List ℕ → Type 0
IsComplete text = begun_after [] text ≡ []

-- No byte of the text is ESC.
abbrev pub HasNoEscape : List ℕ → Type 0
HasNoEscape text = list_all (λ byte. not (byte == 27)) text ≡ true

-- The byte is neither ESC nor LF.
abbrev pub is_in_word : ℕ → Bool
is_in_word byte = not (byte == 27) && not (byte == 10)

-- No byte of the text is ESC or LF.
abbrev pub IsInWords : List ℕ → Type 0
IsInWords text = list_all is_in_word text ≡ true

-- ---- colours

-- whether what has begun of a code, and `m`, ends all colours
abbrev pub is_reset : List ℕ → Bool
is_reset begun = bytes_eq begun (27 ∷ 91 ∷ 48 ∷ [])

-- Whether text is coloured after this byte, by whether it was before: every code but ESC `[0m` colours what follows.
abbrev pub colored_with : Bool → List ℕ → ℕ → Bool
colored_with colored begun byte = if ends begun byte then not (is_reset begun) else colored

-- whether what comes after the text is coloured, after what has begun of a code
abbrev pub colored_after : Bool → List ℕ → List ℕ → Bool
colored_after colored begun [] = colored
colored_after colored begun (byte ∷ text) = colored_after (colored_with colored begun byte) (begun_with begun byte) text

-- whether no LF of the text is coloured
abbrev pub has_plain_ends : Bool → List ℕ → List ℕ → Bool
has_plain_ends colored begun [] = true
has_plain_ends colored begun (byte ∷ text) =
    not (byte == 10 && colored) && has_plain_ends (colored_with colored begun byte) (begun_with begun byte) text
