-- Which texts are negative numbers, by what is parsed of them.
use Rattle.std.proofs.Common.{◌≡◌, ◌≢◌, ◌^◌, ◌<◌, ℕ, true, false, List, [], ◌∷◌, length, refl, ap, arith, rules}
use Rattle.std.proofs.lemmas.Bool.Decides.{nat_tests}
use Rattle.std.proofs.lemmas.Str.Parse.{IsNumeralModel, numerals_by_value}
use Rattle.std.specs.Char.{is_ascii_digit}
use Rattle.std.specs.List.{list_all}
use Rattle.std.specs.Prelude.{nat_lt}
use Rattle.std.specs.Str.Parse.{digits_value}
use Rattle.wsn_cli.specs.ErrorWords.{is_negative, is_positive}

pub numerals : IsNumeralModel (λ ds. list_all is_ascii_digit ds ≡ true) (digits_value 10)
numerals = numerals_by_value _ (search rules)

-- digits whose number was parsed
pub parsed : (ds : List ℕ) (n : ℕ) → list_all is_ascii_digit ds ≡ true → digits_value 10 ds < 2 ^ 128 → n ≡ digits_value 10 ds → nat_lt 0 n ≡ is_positive ds
parsed ds n all less is = grind (arith, nat_tests, all, less, is)

-- digits that are none, or whose number is too large
pub unparsed : (ds : List ℕ) → ¬ ((0 < length ds) × (digits_value 10 ds < 2 ^ 128)) → false ≡ is_positive ds
unparsed [] fails = refl
unparsed (d ∷ ds) fails =
    let large : digits_value 10 (d ∷ ds) < 2 ^ 128 → ⊥ = λ less. fails (omega arith, less) in
    grind (arith, nat_tests, large)

-- a text without a sign
pub unsigned : (word : List ℕ) → ((rest : List ℕ) → word ≢ 45 ∷ rest) → false ≡ is_negative word
unsigned [] other = refl
unsigned (sign ∷ digits) other =
    let apart : sign ≢ 45 = λ is. other digits (ap (λ (s : ℕ). s ∷ digits) is) in
    grind (arith, nat_tests, apart)
