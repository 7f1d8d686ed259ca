-- Bytes below 0x80 are characters of one byte each.
use Rattle.std.specs.Prelude.{slice_index, MatchBool, IsTrue}
use Rattle.std.proofs.Common.{◌≡◌, ℕ, Bool, true, false, suc, ◌<◌, List, [], ◌∷◌, inl, refl, ap, arith}
use Rattle.std.specs.List.{AllByRecursion, concat}
use Rattle.wsn_text.specs.Utf8.{IsText, IsCharacter}

singles : List ℕ → List (List ℕ)
singles [] = []
singles (b ∷ bytes) = (b ∷ []) ∷ singles bytes

each_single : (bytes : List ℕ) → AllByRecursion (λ b. b < 128) bytes → AllByRecursion IsCharacter (singles bytes)
unfolding singles
each_single [] low = tt
each_single (b ∷ bytes) low =
    let is_low : b < 128 = low.0 in
    let fits : IsCharacter (b ∷ []) = inl (omega arith, omega arith, tt) in
    (fits, each_single bytes low.1)

concat-singles : (bytes : List ℕ) → bytes ≡ concat (singles bytes)
unfolding singles
concat-singles [] = refl
concat-singles (b ∷ bytes) = ap (λ (rest : List ℕ). b ∷ rest) (concat-singles bytes)

pub ascii_text : (bytes : List ℕ) → AllByRecursion (λ b. b < 128) bytes → IsText bytes
ascii_text bytes low = record { characters = singles bytes; each = each_single bytes low; whole = concat-singles bytes }

-- Byte by byte, or index by index.
pub each_below : (bytes : List ℕ) → ((i : ℕ) → slice_index bytes i < 128) → AllByRecursion (λ b. b < 128) bytes
each_below [] below = tt
each_below (b ∷ bytes) below = (below 0, each_below bytes (λ i. below (suc i)))

-- The result of testing each byte.
pub text_if_ascii : (Q : Type 0) (bytes : List ℕ) (result : Bool) → IsTrue result → MatchBool result ((i : ℕ) → slice_index bytes i < 128) Q → IsText bytes
text_if_ascii Q bytes true low cases = ascii_text bytes (each_below bytes cases)
text_if_ascii Q bytes false low cases = cc
