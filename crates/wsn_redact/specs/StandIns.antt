-- The stand-ins of characters: what is written in place of a text, byte for byte. RFC 6455 sections 5.6 and 8.1.
use Rattle.std.specs.Prelude.{◌≡◌, ℕ, ◌⊎◌, ◌==◌, List, [], ◌∷◌, ◌++◌, length, take, drop, slice_index, if◌then◌else◌}
use Rattle.std.specs.List.{AllByRecursion, concat, flat_map}
use Rattle.wsn_text.specs.Utf8.{IsCharacter, BeginsText}
use Rattle.wsn_print.specs.EscapedText.{is_from}

-- ---- one character

-- A byte that isn't part of a longer character: `x`, `X` or `0` for a letter or a digit, and any other byte itself.
abbrev pub single_stand_in : ℕ → ℕ
single_stand_in b =
    if is_from 0x61 0x7A b then 0x78 else (if is_from 0x41 0x5A b then 0x58 else (if is_from 0x30 0x39 b then 0x30 else b))

-- The stand-in of a character, by its first byte: as long as the character, and with the same narrower range for its
-- second byte (Unicode Standard, Table 3-7). A byte with which no character begins is its own.
abbrev pub stand_in : ℕ → List ℕ
stand_in first =
    if is_from 0xC2 0xDF first then 0xC3 ∷ 0xA9 ∷ []
    else (if first == 0xE0 then 0xE0 ∷ 0xA0 ∷ 0x80 ∷ []
    else (if first == 0xED then 0xED ∷ 0x80 ∷ 0x80 ∷ []
    else (if is_from 0xE1 0xEF first then 0xE2 ∷ 0x82 ∷ 0xAC ∷ []
    else (if first == 0xF0 then 0xF0 ∷ 0x90 ∷ 0x80 ∷ 0x80 ∷ []
    else (if is_from 0xF1 0xF3 first then 0xF1 ∷ 0x80 ∷ 0x80 ∷ 0x80 ∷ []
    else (if first == 0xF4 then 0xF4 ∷ 0x80 ∷ 0x80 ∷ 0x80 ∷ []
    else single_stand_in first ∷ []))))))

-- The stand-in of a character, or of the first bytes of one.
abbrev pub stand_in_of : List ℕ → List ℕ
stand_in_of [] = []
stand_in_of (first ∷ bytes) = stand_in first

-- ---- a text

-- The bytes are the first ones of a character: none, some or all.
abbrev pub BeginsCharacter : List ℕ → Type 0
BeginsCharacter begun = (missing : List ℕ) × IsCharacter (begun ++ missing)

-- The text is characters, and then the first bytes of one. In their place are the characters' stand-ins, and then as
-- many bytes of the begun one's.
pub record IsRedactedText (text redacted : List ℕ) : Type 0 where
  pub characters : List (List ℕ)
  pub begun : List ℕ
  pub each : AllByRecursion IsCharacter characters
  pub begins : BeginsCharacter begun
  pub text_is : text ≡ concat characters ++ begun
  pub redacted_is : redacted ≡ flat_map stand_in_of characters ++ take (length begun) (stand_in_of begun)

-- The text goes wrong at its last byte: the bytes before it are redacted as a text, and the last one by itself.
pub record IsRedactedToBad (text redacted : List ℕ) : Type 0 where
  pub front : List ℕ
  pub bad : ℕ
  pub front_redacted : List ℕ
  pub text_is : text ≡ front ++ bad ∷ []
  pub goes_wrong : ¬ (BeginsText text)
  pub is_front : IsRedactedText front front_redacted
  pub redacted_is : redacted ≡ front_redacted ++ single_stand_in bad ∷ []

-- A text up to where it ends or goes wrong.
abbrev pub IsRedacted : List ℕ → List ℕ → Type 0
IsRedacted text redacted = IsRedactedText text redacted ⊎ IsRedactedToBad text redacted

-- ---- computed

-- The bytes that are due at a byte, the first of which takes its place: what a begun stand-in still has; after a whole
-- one, the stand-in that begins here.
abbrev pub due_at : List ℕ → ℕ → List ℕ
due_at [] b = stand_in b
due_at (d ∷ due) b = d ∷ due

-- What is written in place of a text, if these bytes of a stand-in are due before it.
abbrev pub stood : List ℕ → List ℕ → List ℕ
stood due [] = []
stood due (b ∷ text) = slice_index (due_at due b) 0 ∷ stood (drop 1 (due_at due b)) text

-- The bytes that are due after the text.
abbrev pub due_after : List ℕ → List ℕ → List ℕ
due_after due [] = due
due_after due (b ∷ text) = due_after (drop 1 (due_at due b)) text
