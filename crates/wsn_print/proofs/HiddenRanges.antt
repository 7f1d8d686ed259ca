-- Facts of all hidden characters, each by a test of their ranges that computes.
use Rattle.std.proofs.Common.{◌≡◌, ℕ, zero, suc, ◌+◌, ◌-◌, ◌/◌, ◌%◌, ◌<◌, ◌≤◌, inl, inr, Bool, true, not, ◌==◌, ◌&&◌, ◌||◌, nat_lt, get_or, bit_and, List, [], ◌∷◌, refl, subst, arith}
use Rattle.std.specs.Prelude.{nat_le}
use Rattle.std.proofs.lemmas.Bool.{and_parts, or_cases, cases_lt}
use Rattle.std.proofs.lemmas.Bool.Decides.{nat_tests}
use Rattle.wsn_print.specs.declared.escapes.TheConstants.{SECOND_LOW}
use Rattle.wsn_print.specs.Runs.{first_high, first_low, class_of}
use Rattle.wsn_print.specs.EscapedText.{is_from, is_in, hidden_ranges, is_hidden}

-- ---- tests

pub from_is : (low high c : ℕ) → low ≤ c → c ≤ high → is_from low high c ≡ true
from_is low high c least most = grind (arith, nat_tests)

pub from_low : (low high c : ℕ) → is_from low high c ≡ true → low ≤ c
from_low low high c is = grind (arith, nat_tests)

pub from_high : (low high c : ℕ) → is_from low high c ≡ true → c ≤ high
from_high low high c is = grind (arith, nat_tests)

pub below : (m n : ℕ) → nat_lt m n ≡ true → m < n
below m n is = grind (arith, nat_tests)

pub at_most : (m n : ℕ) → nat_le m n ≡ true → m ≤ n
at_most m n is = grind (arith, nat_tests)

equal : (m n : ℕ) → (m == n) ≡ true → m ≡ n
equal m n is = grind (arith, nat_tests)

not_zero : (n : ℕ) → not (n == 0) ≡ true → n ≡ 0 → ⊥
not_zero n test none = grind (arith, nat_tests)

abbrev all_below : (ℕ → Bool) → ℕ → Bool
all_below p zero = true
all_below p (suc n) = p n && all_below p n

passes : (p : ℕ → Bool) (n k : ℕ) → all_below p n ≡ true → k < n → p k ≡ true
passes p zero k all within = absurd (omega arith)
passes p (suc n) k all within =
    let parts = and_parts (p n) (all_below p n) all in
    passes_or p n k parts.0 (λ lower. passes p n k parts.1 lower) within
  where
    passes_or : (p : ℕ → Bool) (n k : ℕ) → p n ≡ true → (k < n → p k ≡ true) → k < suc n → p k ≡ true
    passes_or p n k last lower within = elim (cases_lt k n) [
      | inl less ↦ lower less
      | inr more ↦ subst (λ (m : ℕ). p m ≡ true) (let same : n ≡ k = omega arith in same) last
    ]

-- ---- ranges

abbrev all_ranges : (ℕ → ℕ → Bool) → List (ℕ × ℕ) → Bool
all_ranges p [] = true
all_ranges p (range ∷ ranges) = p range.0 range.1 && all_ranges p ranges

-- A range of the list has the character, and passes the test.
record InRange (p : ℕ → ℕ → Bool) (c : ℕ) : Type 0 where
  first : ℕ
  last : ℕ
  passed : p first last ≡ true
  low : first ≤ c
  high : c ≤ last

found : (p : ℕ → ℕ → Bool) (ranges : List (ℕ × ℕ)) (c : ℕ) → all_ranges p ranges ≡ true → is_in ranges c ≡ true → InRange p c
found p [] c all is = absurd cc
found p (range ∷ ranges) c all is =
    let parts = and_parts (p range.0 range.1) (all_ranges p ranges) all in
    elim (or_cases (is_from range.0 range.1 c) (is_in ranges c) is) [
      | inl here ↦
          record { first = range.0; last = range.1; passed = parts.0; low = from_low range.0 range.1 c here; high = from_high range.0 range.1 c here }
      | inr there ↦ found p ranges c parts.1 there
    ]

-- ---- which characters they are

abbrev no_surrogates : ℕ → ℕ → Bool
no_surrogates first last = nat_lt last 0xd800 || (nat_le 0xe000 first && nat_lt last 0x110000)

pub hidden_scalar : (c : ℕ) → is_hidden c ≡ true → (0xd800 ≤ c → 0xe000 ≤ c) × (c < 0x110000)
hidden_scalar c hidden =
    let range = found no_surrogates hidden_ranges c refl hidden in
    elim (or_cases (nat_lt range.last 0xd800) (nat_le 0xe000 range.first && nat_lt range.last 0x110000) range.passed) [
      | inl low ↦
          let less : range.last < 0xd800 = below range.last 0xd800 low in
          (λ more. absurd (omega (arith, range.high)), omega (arith, range.high))
      | inr high ↦
          let parts = and_parts (nat_le 0xe000 range.first) (nat_lt range.last 0x110000) high in
          let least : 0xe000 ≤ range.first = at_most 0xe000 range.first parts.0 in
          let most : range.last < 0x110000 = below range.last 0x110000 parts.1 in
          (λ more. omega (arith, range.low), omega (arith, range.high))
    ]

abbrev no_printable : ℕ → ℕ → Bool
no_printable first last = nat_lt last 0x20 || nat_lt 0x7e first

pub printable_shown : (c : ℕ) → 0x20 ≤ c → c ≤ 0x7e → is_hidden c ≡ true → ⊥
printable_shown c least most hidden =
    let range = found no_printable hidden_ranges c refl hidden in
    elim (or_cases (nat_lt range.last 0x20) (nat_lt 0x7e range.first) range.passed) [
      | inl low ↦ let less : range.last < 0x20 = below range.last 0x20 low in omega (arith, range.high)
      | inr high ↦ let more : 0x7e < range.first = below 0x7e range.first high in omega (arith, range.low)
    ]

-- ---- the classes of their first two bytes

-- the classes of a byte and of any byte with this second half after it
abbrev class_before : ℕ → ℕ → ℕ
class_before b half = bit_and (bit_and (first_high b) (first_low b)) (get_or SECOND_LOW half 0)

abbrev one_byte : ℕ → ℕ → Bool
one_byte first last = nat_le 0x80 first || all_below (λ k. all_below (λ half. not (class_before (first + k) half == 0)) 16) (last - first + 1)

pub of_one_byte : (c second : ℕ) → c < 0x80 → is_hidden c ≡ true → class_of c second ≡ 0 → ⊥
of_one_byte c second small hidden none =
    let range = found one_byte hidden_ranges c refl hidden in
    elim (or_cases (nat_le 0x80 range.first) (all_below (λ k. all_below (λ half. not (class_before (range.first + k) half == 0)) 16) (range.last - range.first + 1)) range.passed) [
      | inl more ↦ let least : 0x80 ≤ range.first = at_most 0x80 range.first more in omega (arith, range.low)
      | inr each ↦
          let is : range.first + (c - range.first) ≡ c = omega (arith, range.low) in
          let all = passes (λ k. all_below (λ half. not (class_before (range.first + k) half == 0)) 16) (range.last - range.first + 1) (c - range.first) each (omega (arith, range.low, range.high)) in
          let here = subst (λ (n : ℕ). all_below (λ half. not (class_before n half == 0)) 16 ≡ true) is all in
          not_zero (class_of c second) (passes (λ half. not (class_before c half == 0)) 16 (second % 16) here (omega arith)) none
    ]

abbrev two_bytes : ℕ → ℕ → Bool
two_bytes first last =
    nat_lt last 0x80 || (nat_le 0x800 first
    || all_below (λ k. not (class_of (192 + (first + k) / 64) (128 + (first + k) % 64) == 0)) (last - first + 1))

pub of_two_bytes : (c : ℕ) → 0x80 ≤ c → c < 0x800 → is_hidden c ≡ true → class_of (192 + c / 64) (128 + c % 64) ≡ 0 → ⊥
of_two_bytes c least most hidden none =
    let range = found two_bytes hidden_ranges c refl hidden in
    let test = λ (k : ℕ). not (class_of (192 + (range.first + k) / 64) (128 + (range.first + k) % 64) == 0) in
    elim (or_cases (nat_lt range.last 0x80) (nat_le 0x800 range.first || all_below test (range.last - range.first + 1)) range.passed) [
      | inl low ↦ let less : range.last < 0x80 = below range.last 0x80 low in omega (arith, range.high)
      | inr other ↦ elim (or_cases (nat_le 0x800 range.first) (all_below test (range.last - range.first + 1)) other) [
        | inl high ↦ let more : 0x800 ≤ range.first = at_most 0x800 range.first high in omega (arith, range.low)
        | inr each ↦
            let is : range.first + (c - range.first) ≡ c = omega (arith, range.low) in
            let here = passes test (range.last - range.first + 1) (c - range.first) each (omega (arith, range.low, range.high)) in
            not_zero (class_of (192 + c / 64) (128 + c % 64)) (subst (λ (n : ℕ). not (class_of (192 + n / 64) (128 + n % 64) == 0) ≡ true) is here) none
      ]
    ]

abbrev three_bytes : ℕ → ℕ → Bool
three_bytes first last =
    nat_lt last 0x800 || (nat_le 0x10000 first
    || ((first / 64 == last / 64) && not (class_of (224 + first / 64 / 64) (128 + first / 64 % 64) == 0)))

pub of_three_bytes : (c : ℕ) → 0x800 ≤ c → c < 0x10000 → is_hidden c ≡ true → class_of (224 + c / 64 / 64) (128 + c / 64 % 64) ≡ 0 → ⊥
of_three_bytes c least most hidden none =
    let range = found three_bytes hidden_ranges c refl hidden in
    let test = (range.first / 64 == range.last / 64) && not (class_of (224 + range.first / 64 / 64) (128 + range.first / 64 % 64) == 0) in
    elim (or_cases (nat_lt range.last 0x800) (nat_le 0x10000 range.first || test) range.passed) [
      | inl low ↦ let less : range.last < 0x800 = below range.last 0x800 low in omega (arith, range.high)
      | inr other ↦ elim (or_cases (nat_le 0x10000 range.first) test other) [
        | inl high ↦ let more : 0x10000 ≤ range.first = at_most 0x10000 range.first high in omega (arith, range.low)
        | inr both ↦
            let parts = and_parts (range.first / 64 == range.last / 64) (not (class_of (224 + range.first / 64 / 64) (128 + range.first / 64 % 64) == 0)) both in
            let one : range.first / 64 ≡ range.last / 64 = equal (range.first / 64) (range.last / 64) parts.0 in
            let is : range.first / 64 ≡ c / 64 = omega (arith, range.low, range.high) in
            not_zero (class_of (224 + c / 64 / 64) (128 + c / 64 % 64)) (subst (λ (n : ℕ). not (class_of (224 + n / 64) (128 + n % 64) == 0) ≡ true) is parts.1) none
      ]
    ]

abbrev four_bytes : ℕ → ℕ → Bool
four_bytes first last =
    nat_lt last 0x10000 || ((first / 4096 == last / 4096) && not (class_of (240 + first / 4096 / 64) (128 + first / 4096 % 64) == 0))

pub of_four_bytes : (c : ℕ) → 0x10000 ≤ c → is_hidden c ≡ true → class_of (240 + c / 4096 / 64) (128 + c / 4096 % 64) ≡ 0 → ⊥
of_four_bytes c least hidden none =
    let range = found four_bytes hidden_ranges c refl hidden in
    elim (or_cases (nat_lt range.last 0x10000) ((range.first / 4096 == range.last / 4096) && not (class_of (240 + range.first / 4096 / 64) (128 + range.first / 4096 % 64) == 0)) range.passed) [
      | inl low ↦ let less : range.last < 0x10000 = below range.last 0x10000 low in omega (arith, range.high)
      | inr both ↦
          let parts = and_parts (range.first / 4096 == range.last / 4096) (not (class_of (240 + range.first / 4096 / 64) (128 + range.first / 4096 % 64) == 0)) both in
          let one : range.first / 4096 ≡ range.last / 4096 = equal (range.first / 4096) (range.last / 4096) parts.0 in
          let is : range.first / 4096 ≡ c / 4096 = omega (arith, range.low, range.high) in
          not_zero (class_of (240 + c / 4096 / 64) (128 + c / 4096 % 64)) (subst (λ (n : ℕ). not (class_of (240 + n / 64) (128 + n % 64) == 0) ≡ true) is parts.1) none
    ]
