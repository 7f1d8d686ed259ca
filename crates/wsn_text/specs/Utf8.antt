-- UTF-8, by the table of well-formed byte sequences (Unicode Standard, Table 3-7). RFC 6455 sections 5.6 and 8.1.
use Rattle.std.specs.Prelude.{◌≡◌, ℕ, ◌+◌, ◌<◌, ◌≤◌, ◌⊎◌, List, [], ◌∷◌, ◌++◌, length, take}
use Rattle.std.specs.List.{AllByRecursion, concat}

-- The lowest and the highest value of one byte in a row.
pub record Range : Type 0 where
  pub low : ℕ
  pub high : ℕ

infix 30 ◌–◌
-- The range from one value to another.
abbrev pub ◌–◌ : ℕ → ℕ → Range
low – high = record { low = low; high = high }

-- The nine rows: the range of each byte of a character.
abbrev pub table : List (List Range)
table =
    ((0x00 – 0x7F) ∷ [])
    ∷ ((0xC2 – 0xDF) ∷ (0x80 – 0xBF) ∷ [])
    ∷ ((0xE0 – 0xE0) ∷ (0xA0 – 0xBF) ∷ (0x80 – 0xBF) ∷ [])
    ∷ ((0xE1 – 0xEC) ∷ (0x80 – 0xBF) ∷ (0x80 – 0xBF) ∷ [])
    ∷ ((0xED – 0xED) ∷ (0x80 – 0x9F) ∷ (0x80 – 0xBF) ∷ [])
    ∷ ((0xEE – 0xEF) ∷ (0x80 – 0xBF) ∷ (0x80 – 0xBF) ∷ [])
    ∷ ((0xF0 – 0xF0) ∷ (0x90 – 0xBF) ∷ (0x80 – 0xBF) ∷ (0x80 – 0xBF) ∷ [])
    ∷ ((0xF1 – 0xF3) ∷ (0x80 – 0xBF) ∷ (0x80 – 0xBF) ∷ (0x80 – 0xBF) ∷ [])
    ∷ ((0xF4 – 0xF4) ∷ (0x80 – 0x8F) ∷ (0x80 – 0xBF) ∷ (0x80 – 0xBF) ∷ [])
    ∷ []

-- The bytes fit the row: one for each range, and within it.
abbrev pub FitsRow : List Range → List ℕ → Type 0
FitsRow [] [] = Unit {0}
FitsRow [] (b ∷ bytes) = ⊥
FitsRow (r ∷ row) [] = ⊥
FitsRow (r ∷ row) (b ∷ bytes) = (r.low ≤ b) × (b ≤ r.high) × FitsRow row bytes

-- The bytes fit one of the rows.
abbrev pub FitsSome : List (List Range) → List ℕ → Type 0
FitsSome [] bytes = ⊥
FitsSome (row ∷ rows) bytes = FitsRow row bytes ⊎ FitsSome rows bytes

-- The bytes are one character: they fit a row of the table.
abbrev pub IsCharacter : List ℕ → Type 0
IsCharacter = FitsSome table

-- The bytes are UTF-8: characters, one after another.
pub record IsText (bytes : List ℕ) : Type 0 where
  pub characters : List (List ℕ)
  pub each : AllByRecursion IsCharacter characters
  pub whole : bytes ≡ concat characters

-- Some continuation, possibly empty, makes the bytes text.
pub record BeginsText (bytes : List ℕ) : Type 0 where
  pub more : List ℕ
  pub text : IsText (bytes ++ more)

-- Byte i is the first bad byte: the least i such that the bytes 0 to i don't begin text.
pub record IsFirstBad (bytes : List ℕ) (i : ℕ) : Type 0 where
  pub within : i < length bytes
  pub bad : ¬ (BeginsText (take (i + 1) bytes))
  pub least : (j : ℕ) → j < i → BeginsText (take (j + 1) bytes)
