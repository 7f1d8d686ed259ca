-- The table of the values of digits.
use Rattle.std.proofs.Common.{◌≡◌, ℕ, zero, suc, ◌<◌, ◌&&◌, Bool, true, eqb, bit_and, slice_index, unwrap_or, refl, sym, subst, inl, inr, arith, eqb-true}
use Rattle.std.specs.Prelude.{not}
use Rattle.std.proofs.lemmas.Bool.{and_parts, cases_lt}
use mathlib.Core.Bool.{beq}
use Rattle.hex.specs.Hex.{hex_digit_value, is_hex_digit}
use Rattle.wsn_capture.specs.declared.hex_pairs.TheConstants.{DIGIT_VALUES}

-- What the table has of a byte: whether it is a digit, and its value.
abbrev is_listed : ℕ → Bool
is_listed c = beq (not (eqb (slice_index DIGIT_VALUES c) 240)) (is_hex_digit c) && eqb (bit_and (slice_index DIGIT_VALUES c) 15) (unwrap_or (hex_digit_value c) 0)

abbrev are_listed : ℕ → Bool
are_listed zero = true
are_listed (suc n) = is_listed n && are_listed n

listed_at : (n c : ℕ) → are_listed n ≡ true → c < n → is_listed c ≡ true
listed_at zero c h lt = absurd (omega arith)
listed_at (suc n) c h lt =
    let parts = and_parts (is_listed n) (are_listed n) h in
    elim (cases_lt c n) [
      | inl below ↦ listed_at n c parts.1 below
      | inr above ↦ let e : c ≡ n = omega arith in subst (λ (k : ℕ). is_listed k ≡ true) (sym e) parts.0
    ]

same : (a b : Bool) → beq a b ≡ true → a ≡ b
same a b h = grind arith

pub is_digit_at : (c : ℕ) → c < 256 → not (eqb (slice_index DIGIT_VALUES c) 240) ≡ is_hex_digit c
is_digit_at c lt = same _ _ (and_parts (beq (not (eqb (slice_index DIGIT_VALUES c) 240)) (is_hex_digit c)) _ (listed_at 256 c refl lt)).0

pub value_at : (c : ℕ) → c < 256 → bit_and (slice_index DIGIT_VALUES c) 15 ≡ unwrap_or (hex_digit_value c) 0
value_at c lt = eqb-true _ _ (and_parts (beq (not (eqb (slice_index DIGIT_VALUES c) 240)) (is_hex_digit c)) _ (listed_at 256 c refl lt)).1
