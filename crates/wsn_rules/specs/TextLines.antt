-- The lines of a text.
use Rattle.std.specs.Prelude.{◌≡◌, ◌≢◌, ℕ, ◌⊎◌, ◌==◌, List, [], ◌∷◌, ◌++◌, if◌then◌else◌}
use Rattle.std.specs.List.{AllByRecursion, flat_map}

-- A line has no LF.
abbrev pub IsLine : List ℕ → Type 0
IsLine = AllByRecursion (λ b. b ≢ 10)

-- Lines, each with LF at its end.
abbrev pub ended : List (List ℕ) → List ℕ
ended = flat_map (λ line. line ++ 10 ∷ [])

-- Every line of the text ends with LF, or the last one doesn't and isn't empty.
abbrev pub AreJoined : List ℕ → List (List ℕ) → Type 0
AreJoined text lines =
    (text ≡ ended lines)
    ⊎ ((before : List (List ℕ)) × (last : List ℕ) × (lines ≡ before ++ last ∷ []) × (last ≢ [])
    × (text ≡ ended before ++ last))

-- The lines of a text.
pub record AreLines (text : List ℕ) (lines : List (List ℕ)) : Type 0 where
  pub each : AllByRecursion IsLine lines
  pub joined : AreJoined text lines

-- ---- the lines as a function

-- Lines whose first line begins with one more byte. Without lines, the byte is a line.
abbrev pub before_first : ℕ → List (List ℕ) → List (List ℕ)
before_first b [] = (b ∷ []) ∷ []
before_first b (line ∷ lines) = (b ∷ line) ∷ lines

-- The lines of a text that begins with this byte, given the lines of the text after it.
abbrev pub lines_with : ℕ → List (List ℕ) → List (List ℕ)
lines_with b lines = if b == 10 then [] ∷ lines else before_first b lines

-- The lines of a text, byte by byte.
abbrev pub lines_of : List ℕ → List (List ℕ)
lines_of [] = []
lines_of (b ∷ text) = lines_with b (lines_of text)
