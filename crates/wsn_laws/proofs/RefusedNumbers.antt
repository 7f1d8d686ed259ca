-- What isn't a number: a machine that accepts every number doesn't accept it.
use Rattle.std.proofs.Common.{◌≡◌, ℕ, ◌≤◌, ◌==◌, inl, inr, Bool, true, false, ◌||◌, if◌then◌else◌, List, [], ◌∷◌, ◌++◌, codes, refl, sym, ap, ◌∙◌, subst, arith}
use Rattle.std.specs.List.{AllByRecursion}
use Rattle.std.proofs.lemmas.Bool.Decides.{nat_tests}
use Rattle.wsn_print.specs.EscapedText.{is_from}
use Rattle.wsn_laws.specs.JsonText.{Are, ◌and_then◌, ◌or_else◌, Optional, AreDigits, IsInteger, IsFraction, IsExponent, IsNumber}
use Rattle.wsn_rules.specs.ShownCapture.{IsDigit}

pub data State : Type 0 where
  Start Minus Zero Digits Point Fraction Exponent Sign Power Bad : State

abbrev is_digit : ℕ → Bool
is_digit b = is_from 48 57 b

abbrev is_e : ℕ → Bool
is_e b = b == 101 || b == 69

abbrev pub step : State → ℕ → State
step Start b = if is_from 49 57 b then Digits else if b == 48 then Zero else if b == 45 then Minus else Bad
step Minus b = if is_from 49 57 b then Digits else if b == 48 then Zero else Bad
step Zero b = if b == 46 then Point else if is_e b then Exponent else Bad
step Digits b = if is_digit b then Digits else if b == 46 then Point else if is_e b then Exponent else Bad
step Point b = if is_digit b then Fraction else Bad
step Fraction b = if is_digit b then Fraction else if is_e b then Exponent else Bad
step Exponent b = if is_digit b then Power else if b == 43 || b == 45 then Sign else Bad
step Sign b = if is_digit b then Power else Bad
step Power b = if is_digit b then Power else Bad
step Bad b = Bad

abbrev pub run : State → List ℕ → State
run s [] = s
run s (b ∷ bytes) = run (step s b) bytes

abbrev pub accepts : State → Bool
accepts Zero = true
accepts Digits = true
accepts Fraction = true
accepts Power = true
accepts _ = false

in_turn : (s : State) (xs ys : List ℕ) → run s (xs ++ ys) ≡ run (run s xs) ys
in_turn s [] ys = refl
in_turn s (x ∷ xs) ys = in_turn (step s x) xs ys

-- ---- digits

digit : (b : ℕ) → IsDigit b → is_digit b ≡ true
digit b is = grind (arith, nat_tests, is.0, is.1)

above_zero : (b : ℕ) → 49 ≤ b → b ≤ 57 → is_from 49 57 b ≡ true
above_zero b low high = grind (arith, nat_tests)

stay : (s : State) → ((b : ℕ) → is_digit b ≡ true → step s b ≡ s) → (bytes : List ℕ) → AllByRecursion IsDigit bytes → run s bytes ≡ s
stay s same [] are = refl
stay s same (b ∷ bytes) are =
    ap (λ (t : State). run t bytes) (same b (digit b are.0)) ∙ stay s same bytes are.1

digits_stay : (b : ℕ) → is_digit b ≡ true → step Digits b ≡ Digits
digits_stay b is = ap (λ (t : Bool). if t then Digits else if b == 46 then Point else if is_e b then Exponent else Bad) is

fraction_stay : (b : ℕ) → is_digit b ≡ true → step Fraction b ≡ Fraction
fraction_stay b is = ap (λ (t : Bool). if t then Fraction else if is_e b then Exponent else Bad) is

power_stay : (b : ℕ) → is_digit b ≡ true → step Power b ≡ Power
power_stay b is = ap (λ (t : Bool). if t then Power else Bad) is

some_digits : (s t : State) → ((b : ℕ) → is_digit b ≡ true → step s b ≡ t) → ((b : ℕ) → is_digit b ≡ true → step t b ≡ t) → (bytes : List ℕ) → AreDigits bytes → run s bytes ≡ t
some_digits s t first same [] are = absurd (are.0 refl)
some_digits s t first same (b ∷ bytes) are =
    ap (λ (u : State). run u bytes) (first b (digit b are.1.0)) ∙ stay t same bytes are.1.1

-- ---- the parts of a number

data IsBeforeInteger : State → Type 0 where
  at_start : IsBeforeInteger Start
  at_minus : IsBeforeInteger Minus

data IsAfterInteger : State → Type 0 where
  at_zero : IsAfterInteger Zero
  at_digits : IsAfterInteger Digits

data IsAfterFraction : State → Type 0 where
  at_integer : (s : State) → IsAfterInteger s → IsAfterFraction s
  at_fraction : IsAfterFraction Fraction

minus : (bytes : List ℕ) → Optional (Are (codes "-")) bytes → IsBeforeInteger (run Start bytes)
minus bytes (inl is) = subst (λ (bs : List ℕ). IsBeforeInteger (run Start bs)) (sym is) at_start
minus bytes (inr is) = subst (λ (bs : List ℕ). IsBeforeInteger (run Start bs)) (sym is) at_minus

integer : (s : State) (bytes : List ℕ) → IsBeforeInteger s → IsInteger bytes → IsAfterInteger (run s bytes)
integer s bytes at_start (inl is) = subst (λ (bs : List ℕ). IsAfterInteger (run Start bs)) (sym is) at_zero
integer s bytes at_minus (inl is) = subst (λ (bs : List ℕ). IsAfterInteger (run Minus bs)) (sym is) at_zero
integer s bytes at_start (inr is) =
    let high = above_zero is.0 is.3 is.4 in
    let ends : run Start bytes ≡ Digits =
    ap (run Start) is.2 ∙ ap (λ (t : Bool). run (if t then Digits else if is.0 == 48 then Zero else if is.0 == 45 then Minus else Bad) is.1) high ∙ stay Digits digits_stay is.1 is.5 in
    subst IsAfterInteger (sym ends) at_digits
integer s bytes at_minus (inr is) =
    let high = above_zero is.0 is.3 is.4 in
    let ends : run Minus bytes ≡ Digits =
    ap (run Minus) is.2 ∙ ap (λ (t : Bool). run (if t then Digits else if is.0 == 48 then Zero else Bad) is.1) high ∙ stay Digits digits_stay is.1 is.5 in
    subst IsAfterInteger (sym ends) at_digits

to_fraction : (b : ℕ) → is_digit b ≡ true → step Point b ≡ Fraction
to_fraction b is = ap (λ (t : Bool). if t then Fraction else Bad) is

point : (s : State) → IsAfterInteger s → step s 46 ≡ Point
point s at_zero = refl
point s at_digits = refl

fraction : (s : State) (bytes : List ℕ) → IsAfterInteger s → Optional IsFraction bytes → IsAfterFraction (run s bytes)
fraction s bytes before (inl is) = subst (λ (bs : List ℕ). IsAfterFraction (run s bs)) (sym is) (at_integer s before)
fraction s bytes before (inr is) =
    let ends : run s bytes ≡ Fraction =
    ap (run s) is.2 ∙ ap (λ (bs : List ℕ). run s (bs ++ is.1)) is.3 ∙ ap (λ (t : State). run t is.1) (point s before)
    ∙ some_digits Point Fraction to_fraction fraction_stay is.1 is.4 in
    subst IsAfterFraction (sym ends) at_fraction

to_power : (b : ℕ) → is_digit b ≡ true → step Exponent b ≡ Power
to_power b is = ap (λ (t : Bool). if t then Power else if b == 43 || b == 45 then Sign else Bad) is

sign_to_power : (b : ℕ) → is_digit b ≡ true → step Sign b ≡ Power
sign_to_power b is = ap (λ (t : Bool). if t then Power else Bad) is

letter : (s : State) (bytes : List ℕ) → IsAfterFraction s → (Are (codes "e") or_else Are (codes "E")) bytes → run s bytes ≡ Exponent
letter s bytes (at_integer t at_zero) (inl is) = ap (run Zero) is
letter s bytes (at_integer t at_digits) (inl is) = ap (run Digits) is
letter s bytes at_fraction (inl is) = ap (run Fraction) is
letter s bytes (at_integer t at_zero) (inr is) = ap (run Zero) is
letter s bytes (at_integer t at_digits) (inr is) = ap (run Digits) is
letter s bytes at_fraction (inr is) = ap (run Fraction) is

power : (bytes : List ℕ) → (Optional (Are (codes "+") or_else Are (codes "-")) and_then AreDigits) bytes → run Exponent bytes ≡ Power
power bytes is = ap (run Exponent) is.2 ∙ in_turn Exponent is.0 is.1 ∙ signed is.0 is.3 is.1 is.4
  where
    signed : (sign : List ℕ) → Optional (Are (codes "+") or_else Are (codes "-")) sign → (digits : List ℕ) → AreDigits digits → run (run Exponent sign) digits ≡ Power
    signed sign (inl is) digits are = ap (λ (bs : List ℕ). run (run Exponent bs) digits) is ∙ some_digits Exponent Power to_power power_stay digits are
    signed sign (inr (inl is)) digits are = ap (λ (bs : List ℕ). run (run Exponent bs) digits) is ∙ some_digits Sign Power sign_to_power power_stay digits are
    signed sign (inr (inr is)) digits are = ap (λ (bs : List ℕ). run (run Exponent bs) digits) is ∙ some_digits Sign Power sign_to_power power_stay digits are

accepted : (s : State) → IsAfterFraction s → accepts s ≡ true
accepted s (at_integer t at_zero) = refl
accepted s (at_integer t at_digits) = refl
accepted s at_fraction = refl

exponent : (s : State) (bytes : List ℕ) → IsAfterFraction s → Optional IsExponent bytes → accepts (run s bytes) ≡ true
exponent s bytes before (inl is) = ap (λ (bs : List ℕ). accepts (run s bs)) is ∙ accepted s before
exponent s bytes before (inr is) =
    ap (λ (bs : List ℕ). accepts (run s bs)) is.2 ∙ ap accepts (in_turn s is.0 is.1) ∙ ap (λ (t : State). accepts (run t is.1)) (letter s is.0 before is.3)
    ∙ ap accepts (power is.1 is.4)

pub number_accepted : (bytes : List ℕ) → IsNumber bytes → accepts (run Start bytes) ≡ true
number_accepted bytes is =
    let after_minus = minus is.0 is.3 in
    let rest = is.4 in
    let after_integer = integer (run Start is.0) rest.0 after_minus rest.3 in
    let last = rest.4 in
    let after_fraction = fraction (run (run Start is.0) rest.0) last.0 after_integer last.3 in
    ap (λ (bs : List ℕ). accepts (run Start bs)) is.2
    ∙ ap accepts (in_turn Start is.0 is.1)
    ∙ ap (λ (bs : List ℕ). accepts (run (run Start is.0) bs)) rest.2
    ∙ ap accepts (in_turn (run Start is.0) rest.0 rest.1)
    ∙ ap (λ (bs : List ℕ). accepts (run (run (run Start is.0) rest.0) bs)) last.2
    ∙ ap accepts (in_turn (run (run Start is.0) rest.0) last.0 last.1)
    ∙ exponent (run (run (run Start is.0) rest.0) last.0) last.1 after_fraction last.4

-- The machine refuses it.
pub no_number : (bytes : List ℕ) → accepts (run Start bytes) ≡ false → IsNumber bytes → ⊥
no_number bytes refused is =
    let accepted_too : accepts (run Start bytes) ≡ true = number_accepted bytes is in
    let both : false ≡ true = sym refused ∙ accepted_too in
    absurd cc
