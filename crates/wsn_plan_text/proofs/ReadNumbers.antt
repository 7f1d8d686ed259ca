-- What `parse` accepts of a number's digits.
use Rattle.std.proofs.Common.{◌≡◌, ◌≢◌, ℕ, ◌^◌, ◌<◌, ◌⊎◌, Result, Ok, Err, List, length, get_or, codes, sym, ap, subst, ◌∙◌, arith}
use Rattle.std.specs.Prelude.{decimal, MatchResult, slice_index}
use Rattle.std.specs.Str.{IsUtf8}
use Rattle.std.specs.Str.Parse.{AllDigits, digits_value, ParsesUnsigned}
use Rattle.std.proofs.lemmas.Str.{IsUtf8-from_ascii}
use Rattle.std.proofs.lemmas.Fmt.{decimal_is_IsNumeral, decimal_digit, first_decimal, parse-decimal, decimal-digits_value, IsAscii-decimal}
use Rattle.std.proofs.lemmas.Str.Parse.{IsNumeralModel, numerals_by_value, tells_digits, digit_at, without_leading_plus_none}
use Rattle.wsn_plan_text.specs.PlanText.{EncodesNumber}

-- it begins with a digit other than 0, or is 0
abbrev pub IsPlain : List ℕ → Type 0
IsPlain text = (text ≡ codes "0") ⊎ ((48 < slice_index text 0) × (slice_index text 0 < 58))

plain_decimal : (n : ℕ) → n < 2 ^ 64 → IsPlain (decimal n)
plain_decimal n small = grind (arith, decimal_digit, decimal_is_IsNumeral, first_decimal, digit_at)

pub number_is_plain : (text : List ℕ) (n : ℕ) → EncodesNumber text n → IsPlain text
number_is_plain text n spells = subst IsPlain (sym spells.1) (plain_decimal n spells.0)

pub number_is_text : (text : List ℕ) (n : ℕ) → EncodesNumber text n → IsUtf8 text
number_is_text text n spells = subst IsUtf8 (sym spells.1) (IsUtf8-from_ascii (decimal n) (IsAscii-decimal n spells.0))

digits : IsNumeralModel (AllDigits 10) (digits_value 10)
digits = numerals_by_value (AllDigits 10) tells_digits

plain_is_unsigned : (text : List ℕ) → IsPlain text → get_or text 0 0 ≢ 43
plain_is_unsigned text fact plus = grind arith

plain_zero : (text : List ℕ) → IsPlain text → get_or text 0 0 ≡ 48 → length text ≡ 1
plain_zero text fact first = grind arith

pub number_read : {E : Type 0} (text : List ℕ) (read : Result ℕ E) → ParsesUnsigned 64 10 text read → IsPlain text
    → MatchResult read (EncodesNumber text) (λ e. (n : ℕ) → ¬ (EncodesNumber text n))
number_read text (Ok n) parses plain =
    let bare = without_leading_plus_none text (plain_is_unsigned text plain) in
    let value : n ≡ digits_value 10 text = parses.1 ∙ ap (λ (other : List ℕ). digits_value 10 other) bare in
    let numeral = parses.0.0 in
    let some : 0 < length text = subst (λ (other : List ℕ). 0 < length other) bare numeral.0 in
    let small : digits_value 10 text < 2 ^ 64 = subst (λ (other : List ℕ). digits_value 10 other < 2 ^ 64) bare parses.0.1 in
    let written = decimal-digits_value digits text (subst (AllDigits 10) bare numeral.1) some (plain_zero text plain) small in
    (omega (arith, value, small), sym written ∙ ap decimal (sym value))
number_read text (Err e) parses plain = λ n spells.
    cc (parse-decimal 64 n text (Err e) spells.0 spells.0 spells.1 parses)

-- the same of a text that was checked before
pub number_of_digits : (text field : List ℕ) (n : ℕ) → field ≡ text → ParsesUnsigned {E = ℕ} 64 10 field (Ok n) → IsPlain text → EncodesNumber text n
number_of_digits text field n e parses plain =
    number_read {E = ℕ} text (Ok n) (subst (λ (other : List ℕ). ParsesUnsigned {E = ℕ} 64 10 other (Ok n)) e parses) plain

pub no_number : (text field : List ℕ) → field ≡ text → ParsesUnsigned {E = ℕ} 64 10 field (Err 0) → IsPlain text → (n : ℕ) → ¬ (EncodesNumber text n)
no_number text field e parses plain =
    number_read {E = ℕ} text (Err 0) (subst (λ (other : List ℕ). ParsesUnsigned {E = ℕ} 64 10 other (Err 0)) e parses) plain
