-- Bytes with one stand-in are of one kind.
use Rattle.std.proofs.Common.{◌≡◌, ℕ, ◌<◌, ◌≤◌, Bool, true, false, List, [], ◌∷◌, inl, inr, refl, sym, ◌∙◌, subst, arith}
use Rattle.std.specs.Prelude.{◌==◌, ◌⊎◌}
use Rattle.std.specs.List.{slice_index}
use Rattle.std.proofs.lemmas.Bool.{cases_lt, eqb-true}
use Rattle.std.proofs.lemmas.Grind.{common_steps}
use Rattle.wsn_text.specs.Utf8.{◌–◌, IsCharacter}
use Rattle.wsn_redact.specs.StandIns.{single_stand_in, stand_in}
use Rattle.wsn_laws.specs.AlikeStreams.{IsIn, AreOfOneKind, single_kinds, first_kinds}
use Rattle.wsn_redact.proofs.RedactedLawful.{two_low, row_e0, row_ed, row_e1, row_ee, row_f0, row_f1, row_f4}
use Rattle.wsn_laws.proofs.AlikeRedactions.{single_small, single_capital, single_digit, first_low}

-- ---- a byte that isn't part of a longer character

-- The byte is its own stand-in.
record IsOther (b : ℕ) : Type 0 where
  same : single_stand_in b ≡ b
  no_small : (b == 0x78) ≡ true → ⊥
  no_capital : (b == 0x58) ≡ true → ⊥
  no_digit : (b == 0x30) ≡ true → ⊥

below_is : (b : ℕ) → b < 0x30 → single_stand_in b ≡ b
below_is b to = grind (arith, common_steps)

third_is : (b : ℕ) → 0x3A ≤ b → b < 0x41 → single_stand_in b ≡ b
third_is b from to = grind (arith, common_steps)

fifth_is : (b : ℕ) → 0x5B ≤ b → b < 0x61 → single_stand_in b ≡ b
fifth_is b from to = grind (arith, common_steps)

above_is : (b : ℕ) → 0x7B ≤ b → single_stand_in b ≡ b
above_is b from = grind (arith, common_steps)

-- Which of the kinds the byte is of, if any.
abbrev Kinds : ℕ → Type 0
Kinds b = ((0x61 ≤ b) × (b ≤ 0x7A)) ⊎ ((0x41 ≤ b) × (b ≤ 0x5A)) ⊎ ((0x30 ≤ b) × (b ≤ 0x39)) ⊎ IsOther b

not_this : (b x : ℕ) → (b ≡ x → ⊥) → (b == x) ≡ true → ⊥
not_this b x other is = other (eqb-true b x is)

kind_of : (b : ℕ) → Kinds b
kind_of b = elim (cases_lt b 0x30) [
  | inl lower ↦ inr (inr (inr (record { same = below_is b lower; no_small = not_this b 0x78 (λ is. omega (arith, is, lower)); no_capital = not_this b 0x58 (λ is. omega (arith, is, lower)); no_digit = not_this b 0x30 (λ is. omega (arith, is, lower)) })))
  | inr from ↦ elim (cases_lt b 0x3A) [
    | inl digit ↦ inr (inr (inl (from, omega (arith, digit))))
    | inr past ↦ elim (cases_lt b 0x41) [
      | inl lower ↦ inr (inr (inr (record { same = third_is b past lower; no_small = not_this b 0x78 (λ is. omega (arith, is, lower)); no_capital = not_this b 0x58 (λ is. omega (arith, is, lower)); no_digit = not_this b 0x30 (λ is. omega (arith, is, past)) })))
      | inr at ↦ elim (cases_lt b 0x5B) [
        | inl capital ↦ inr (inl (at, omega (arith, capital)))
        | inr over ↦ elim (cases_lt b 0x61) [
          | inl lower ↦ inr (inr (inr (record { same = fifth_is b over lower; no_small = not_this b 0x78 (λ is. omega (arith, is, lower)); no_capital = not_this b 0x58 (λ is. omega (arith, is, over)); no_digit = not_this b 0x30 (λ is. omega (arith, is, over)) })))
          | inr begins ↦ elim (cases_lt b 0x7B) [
            | inl small ↦ inl (begins, omega (arith, small))
            | inr above ↦ inr (inr (inr (record { same = above_is b above; no_small = not_this b 0x78 (λ is. omega (arith, is, above)); no_capital = not_this b 0x58 (λ is. omega (arith, is, above)); no_digit = not_this b 0x30 (λ is. omega (arith, is, above)) })))
          ]
        ]
      ]
    ]
  ]
]

-- The bytes with the stand-in x, by whether x is that of a small letter, a capital letter or a digit.
abbrev OfSingle : Bool → Bool → Bool → ℕ → ℕ → Type 0
OfSingle true capital digit x b = IsIn ((0x61 – 0x7A) ∷ []) b
OfSingle false true digit x b = IsIn ((0x41 – 0x5A) ∷ []) b
OfSingle false false true x b = IsIn ((0x30 – 0x39) ∷ []) b
OfSingle false false false x b = b ≡ x

abbrev HasSingle : ℕ → ℕ → Type 0
HasSingle x b = OfSingle (x == 0x78) (x == 0x58) (x == 0x30) x b

itself : (small capital digit : Bool) (b : ℕ) → (small ≡ true → ⊥) → (capital ≡ true → ⊥) → (digit ≡ true → ⊥) → OfSingle small capital digit b b
itself true capital digit b one two three = absurd (one refl)
itself false true digit b one two three = absurd (two refl)
itself false false true b one two three = absurd (three refl)
itself false false false b one two three = refl

has_single : (b : ℕ) → HasSingle (single_stand_in b) b
has_single b = elim (kind_of b) [
  | inl small ↦ subst (λ (x : ℕ). HasSingle x b) (sym (single_small b small.0 small.1)) (inl small)
  | inr (inl capital) ↦ subst (λ (x : ℕ). HasSingle x b) (sym (single_capital b capital.0 capital.1)) (inl capital)
  | inr (inr (inl digit)) ↦ subst (λ (x : ℕ). HasSingle x b) (sym (single_digit b digit.0 digit.1)) (inl digit)
  | inr (inr (inr other)) ↦ subst (λ (x : ℕ). HasSingle x b) (sym other.same) (itself (b == 0x78) (b == 0x58) (b == 0x30) b other.no_small other.no_capital other.no_digit)
]

both_single : (small capital digit : Bool) (x b c : ℕ) → OfSingle small capital digit x b → OfSingle small capital digit x c → AreOfOneKind single_kinds b c
both_single true capital digit x b c is also = inl (is, also)
both_single false true digit x b c is also = inr (inl (is, also))
both_single false false true x b c is also = inr (inr (inl (is, also)))
both_single false false false x b c is also = inr (inr (inr (is ∙ sym also)))

pub single_back : (b c : ℕ) → single_stand_in b ≡ single_stand_in c → AreOfOneKind single_kinds b c
single_back b c same =
    let x = single_stand_in c in
    both_single (x == 0x78) (x == 0x58) (x == 0x30) x b c (subst (λ (y : ℕ). HasSingle y b) same (has_single b)) (has_single c)

-- ---- the first byte of a character

-- The first bytes of characters whose stand-in begins with x, in the same way.
abbrev OfFirst : Bool → Bool → Bool → Bool → Bool → Bool → ℕ → ℕ → Type 0
OfFirst true capital digit two three four x b = IsIn ((0x61 – 0x7A) ∷ []) b
OfFirst false true digit two three four x b = IsIn ((0x41 – 0x5A) ∷ []) b
OfFirst false false true two three four x b = IsIn ((0x30 – 0x39) ∷ []) b
OfFirst false false false true three four x b = IsIn ((0xC2 – 0xDF) ∷ []) b
OfFirst false false false false true four x b = IsIn ((0xE1 – 0xEC) ∷ (0xEE – 0xEF) ∷ []) b
OfFirst false false false false false true x b = IsIn ((0xF1 – 0xF3) ∷ []) b
OfFirst false false false false false false x b = b ≡ x

abbrev HasFirst : ℕ → ℕ → Type 0
HasFirst x b = OfFirst (x == 0x78) (x == 0x58) (x == 0x30) (x == 0xC3) (x == 0xE2) (x == 0xF1) x b

itself_first : (small capital digit two three four : Bool) (b : ℕ) → (small ≡ true → ⊥) → (capital ≡ true → ⊥) → (digit ≡ true → ⊥) → (two ≡ true → ⊥) → (three ≡ true → ⊥) → (four ≡ true → ⊥) → OfFirst small capital digit two three four b b
itself_first true capital digit two three four b n1 n2 n3 n4 n5 n6 = absurd (n1 refl)
itself_first false true digit two three four b n1 n2 n3 n4 n5 n6 = absurd (n2 refl)
itself_first false false true two three four b n1 n2 n3 n4 n5 n6 = absurd (n3 refl)
itself_first false false false true three four b n1 n2 n3 n4 n5 n6 = absurd (n4 refl)
itself_first false false false false true four b n1 n2 n3 n4 n5 n6 = absurd (n5 refl)
itself_first false false false false false true b n1 n2 n3 n4 n5 n6 = absurd (n6 refl)
itself_first false false false false false false b n1 n2 n3 n4 n5 n6 = refl

has_low : (b : ℕ) → b ≤ 0x7F → HasFirst (single_stand_in b) b
has_low b to = elim (kind_of b) [
  | inl small ↦ subst (λ (x : ℕ). HasFirst x b) (sym (single_small b small.0 small.1)) (inl small)
  | inr (inl capital) ↦ subst (λ (x : ℕ). HasFirst x b) (sym (single_capital b capital.0 capital.1)) (inl capital)
  | inr (inr (inl digit)) ↦ subst (λ (x : ℕ). HasFirst x b) (sym (single_digit b digit.0 digit.1)) (inl digit)
  | inr (inr (inr other)) ↦
      subst (λ (x : ℕ). HasFirst x b) (sym other.same)
      (itself_first (b == 0x78) (b == 0x58) (b == 0x30) (b == 0xC3) (b == 0xE2) (b == 0xF1) b other.no_small other.no_capital other.no_digit
      (not_this b 0xC3 (λ is. omega (arith, is, to))) (not_this b 0xE2 (λ is. omega (arith, is, to))) (not_this b 0xF1 (λ is. omega (arith, is, to))))
]

has_first : (b : ℕ) (rest : List ℕ) → IsCharacter (b ∷ rest) → HasFirst (slice_index (stand_in b) 0) b
has_first b rest (inl fits) = subst (λ (bs : List ℕ). HasFirst (slice_index bs 0) b) (sym (first_low b fits.1)) (has_low b fits.1)
has_first b rest (inr (inl fits)) = subst (λ (bs : List ℕ). HasFirst (slice_index bs 0) b) (sym (two_low b fits.0 fits.1)) (inl (fits.0, fits.1))
has_first b rest (inr (inr (inl fits))) =
    let from = fits.0 in let to = fits.1 in let is : b ≡ 0xE0 = omega (arith, from, to) in
    subst (λ (bs : List ℕ). HasFirst (slice_index bs 0) b) (sym (row_e0 b is)) is
has_first b rest (inr (inr (inr (inl fits)))) = subst (λ (bs : List ℕ). HasFirst (slice_index bs 0) b) (sym (row_e1 b fits.0 fits.1)) (inl (fits.0, fits.1))
has_first b rest (inr (inr (inr (inr (inl fits))))) =
    let from = fits.0 in let to = fits.1 in let is : b ≡ 0xED = omega (arith, from, to) in
    subst (λ (bs : List ℕ). HasFirst (slice_index bs 0) b) (sym (row_ed b is)) is
has_first b rest (inr (inr (inr (inr (inr (inl fits)))))) = subst (λ (bs : List ℕ). HasFirst (slice_index bs 0) b) (sym (row_ee b fits.0 fits.1)) (inr (inl (fits.0, fits.1)))
has_first b rest (inr (inr (inr (inr (inr (inr (inl fits))))))) =
    let from = fits.0 in let to = fits.1 in let is : b ≡ 0xF0 = omega (arith, from, to) in
    subst (λ (bs : List ℕ). HasFirst (slice_index bs 0) b) (sym (row_f0 b is)) is
has_first b rest (inr (inr (inr (inr (inr (inr (inr (inl fits)))))))) = subst (λ (bs : List ℕ). HasFirst (slice_index bs 0) b) (sym (row_f1 b fits.0 fits.1)) (inl (fits.0, fits.1))
has_first b rest (inr (inr (inr (inr (inr (inr (inr (inr (inl fits))))))))) =
    let from = fits.0 in let to = fits.1 in let is : b ≡ 0xF4 = omega (arith, from, to) in
    subst (λ (bs : List ℕ). HasFirst (slice_index bs 0) b) (sym (row_f4 b is)) is
has_first b rest (inr (inr (inr (inr (inr (inr (inr (inr (inr none))))))))) = absurd none

both_first : (small capital digit two three four : Bool) (x b c : ℕ) → OfFirst small capital digit two three four x b → OfFirst small capital digit two three four x c → AreOfOneKind first_kinds b c
both_first true capital digit two three four x b c is also = inl (is, also)
both_first false true digit two three four x b c is also = inr (inl (is, also))
both_first false false true two three four x b c is also = inr (inr (inl (is, also)))
both_first false false false true three four x b c is also = inr (inr (inr (inl (is, also))))
both_first false false false false true four x b c is also = inr (inr (inr (inr (inl (is, also)))))
both_first false false false false false true x b c is also = inr (inr (inr (inr (inr (inl (is, also))))))
both_first false false false false false false x b c is also = inr (inr (inr (inr (inr (inr (is ∙ sym also))))))

pub first_back : (b c : ℕ) (rest others : List ℕ) → IsCharacter (b ∷ rest) → IsCharacter (c ∷ others) → slice_index (stand_in b) 0 ≡ slice_index (stand_in c) 0 → AreOfOneKind first_kinds b c
first_back b c rest others is also same =
    let x = slice_index (stand_in c) 0 in
    both_first (x == 0x78) (x == 0x58) (x == 0x30) (x == 0xC3) (x == 0xE2) (x == 0xF1) x b c (subst (λ (y : ℕ). HasFirst y b) same (has_first b rest is)) (has_first c others also)
