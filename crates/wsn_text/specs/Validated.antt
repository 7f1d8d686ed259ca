-- The state of a `Utf8` after the bytes fed to it: the ranges that the last character still needs, or `None`.
use Rattle.std.specs.Prelude.{ℕ, ◌↔◌, List, ◌++◌, Option, ◌≤◌, [], ◌∷◌, Some, None, ◌≡◌, ◌+◌, length}
use Rattle.wsn_text.specs.Utf8.{Range, IsText, BeginsText, IsFirstBad}

-- One byte in each of the ranges, in order, and then text.
abbrev pub IsRest : List Range → List ℕ → Type 0
IsRest [] bytes = IsText bytes
IsRest (r ∷ row) [] = ⊥
IsRest (r ∷ row) (b ∷ bytes) = (r.low ≤ b) × (b ≤ r.high) × IsRest row bytes

-- The same, if any bytes may follow.
abbrev pub Follows : Option (List Range) → List ℕ → Type 0
Follows None bytes = ⊥
Follows (Some row) bytes = IsRest row bytes

-- After the bytes taken, exactly the bytes that the state expects make text of them.
pub record HasValidated (awaited : Option (List Range)) (taken : List ℕ) : Type 0 where
  pub continues : (more : List ℕ) → IsText (taken ++ more) ↔ Follows awaited more

-- With the chunk, all bytes so far begin text.
pub record Validates (old new : Option (List Range)) (chunk : List ℕ) : Type 0 where
  pub taken : (taken : List ℕ) → HasValidated old taken → HasValidated new (taken ++ chunk)
  pub begins : (taken : List ℕ) → HasValidated old taken → BeginsText (taken ++ chunk)

-- They don't. Byte i of the chunk is the first bad one if the bytes before the chunk begin text; otherwise i is 0.
pub record Breaks (old new : Option (List Range)) (chunk : List ℕ) (i : ℕ) : Type 0 where
  pub taken : (taken : List ℕ) → HasValidated old taken → HasValidated new (taken ++ chunk)
  pub ends : (taken : List ℕ) → HasValidated old taken → ¬ (BeginsText (taken ++ chunk))
  pub first : (taken : List ℕ) → HasValidated old taken → BeginsText taken →
      IsFirstBad (taken ++ chunk) (length taken + i)
  pub later : (taken : List ℕ) → HasValidated old taken → ¬ (BeginsText taken) → i ≡ 0
