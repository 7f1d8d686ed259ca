-- The tables of pairs of digits: each pair is that of its number.
use Rattle.std.proofs.Common.{◌≡◌, ℕ, zero, suc, ◌+◌, ◌-◌, ◌*◌, ◌/◌, ◌%◌, ◌<◌, Bool, true, false, ◌&&◌, T, eqb, List, [], ◌∷◌, refl, inl, inr, arith, eq-zero-or-pos, eqb→eq}
use lib.Ieee.Fits.{and_l, and_r}
use Rattle.std.specs.Prelude.{slice_index}
use Rattle.hex.specs.Hex.{encode_with, encode_lower, lower_digits}
use Rattle.wsn_print.specs.declared.parts.TheConstants.{HEX_PAIRS, DECIMAL_PAIRS}

-- A list has these two elements.
abbrev is_pair : ℕ → ℕ → List ℕ → Bool
is_pair a b (x ∷ y ∷ []) = eqb x a && eqb y b
is_pair a b other = false

of_pair : (a b : ℕ) (xs : List ℕ) → T (is_pair a b xs) → xs ≡ a ∷ b ∷ []
of_pair a b (x ∷ y ∷ []) t = let one = eqb→eq x a (and_l _ (eqb y b) t) in let two = eqb→eq y b (and_r (eqb x a) _ t) in rw (one, two) refl
of_pair a b [] t = absurd t
of_pair a b (x ∷ []) t = absurd t
of_pair a b (x ∷ y ∷ z ∷ more) t = absurd t

-- The pairs below n stand in a table one after another.
abbrev are_pairs : (ℕ → ℕ) → (ℕ → ℕ) → List ℕ → ℕ → Bool
are_pairs first second table zero = true
are_pairs first second table (suc n) = is_pair (first n) (second n) ((slice_index table (n * 2) ∷ slice_index table (n * 2 + 1) ∷ [])) && are_pairs first second table n

below : (first second : ℕ → ℕ) (table : List ℕ) (n k : ℕ) → T (are_pairs first second table n) → k < n → (slice_index table (k * 2) ∷ slice_index table (k * 2 + 1) ∷ []) ≡ first k ∷ second k ∷ []
below first second table zero k t less = absurd (omega (arith, less))
below first second table (suc n) k t less =
    elim (eq-zero-or-pos (n - k)) [
      | inl none ↦ let same : k ≡ n = omega (arith, less) in rw same (of_pair _ _ _ (and_l _ (are_pairs first second table n) t))
      | inr some ↦ below first second table n k (and_r _ (are_pairs first second table n) t) (omega (arith, some))
    ]

pub DECIMAL_PAIRS_at : (n : ℕ) → n < 100 → (slice_index DECIMAL_PAIRS (n * 2) ∷ slice_index DECIMAL_PAIRS (n * 2 + 1) ∷ []) ≡ (48 + n / 10) ∷ (48 + n % 10) ∷ []
DECIMAL_PAIRS_at n less = below (λ k. 48 + k / 10) (λ k. 48 + k % 10) DECIMAL_PAIRS 100 n tt less

pub HEX_PAIRS_at : (n : ℕ) → n < 256 → (slice_index HEX_PAIRS (n * 2) ∷ slice_index HEX_PAIRS (n * 2 + 1) ∷ []) ≡ encode_lower (n ∷ [])
unfolding encode_with
HEX_PAIRS_at n less = below (λ k. slice_index lower_digits (k / 16)) (λ k. slice_index lower_digits (k % 16)) HEX_PAIRS 256 n tt less
