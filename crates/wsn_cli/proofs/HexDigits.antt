-- The two digits that a format writes of a byte are those of hex.
use Rattle.std.proofs.Common.{◌≡◌, ℕ, zero, suc, ◌-◌, ◌/◌, ◌%◌, ◌^◌, ◌<◌, Bool, true, false, ◌&&◌, T, eqb, List, [], ◌∷◌, Option, Some, inl, inr, arith, ap, ap₂, ◌∙◌, eq-zero-or-pos, eqb→eq}
use lib.Ieee.Fits.{and_l, and_r}
use Rattle.std.specs.Prelude.{slice_index}
use Rattle.std.specs.Fmt.{digit_glyph, digits, format_spec, padded_integral}
use Rattle.std.specs.Prelude.{option_map}
use Rattle.std.proofs.lemmas.Fmt.{hex_byte}
use Rattle.hex.specs.Hex.{encode_with, encode_lower, lower_digits}

-- The glyphs below n are the digits.
abbrev are_glyphs : ℕ → Bool
are_glyphs zero = true
are_glyphs (suc n) = eqb (digit_glyph false n) (slice_index lower_digits n) && are_glyphs n

below : (n d : ℕ) → T (are_glyphs n) → d < n → digit_glyph false d ≡ slice_index lower_digits d
below zero d t less = absurd (omega (arith, less))
below (suc n) d t less =
    elim (eq-zero-or-pos (n - d)) [
      | inl none ↦ let same : d ≡ n = omega (arith, less) in rw same (eqb→eq _ _ (and_l _ (are_glyphs n) t))
      | inr some ↦ below n d (and_r _ (are_glyphs n) t) (omega (arith, some))
    ]

-- `{:02x}` of a byte
pub two_digits : (n : ℕ) → n < 256 → padded_integral (format_spec 32 0 4 2 (2 ^ 64 - 1)) false [] (digits 16 false n) ≡ encode_lower (n ∷ [])
unfolding encode_with
two_digits n less =
    hex_byte false n less
    ∙ ap₂ (λ (a b : ℕ). a ∷ b ∷ []) (below 16 (n / 16) tt (omega (arith, less))) (below 16 (n % 16) tt (omega arith))

-- such a hole of a format, whose digits are these
pub styled_byte : (o : Option (List ℕ)) (n : ℕ) → n < 256 → o ≡ Some (digits 16 false n) → option_map (padded_integral (format_spec 32 0 4 2 (2 ^ 64 - 1)) false []) o ≡ Some (encode_lower (n ∷ []))
styled_byte o n less is =
    ap (option_map (padded_integral (format_spec 32 0 4 2 (2 ^ 64 - 1)) false [])) is
    ∙ ap (λ (t : List ℕ). Some t) (two_digits n less)
