-- A number at the front of bytes is the only one there, if no character of a number follows it.
use Rattle.std.proofs.Common.{◌≡◌, ℕ, ◌<◌, ◌≤◌, ◌==◌, inl, inr, Bool, true, false, ◌||◌, List, [], ◌∷◌, ◌++◌, length, codes, refl, sym, ap, subst, arith, length-append}
use Rattle.std.specs.Prelude.{⊤}
use Rattle.std.specs.List.{AllByRecursion}
use Rattle.std.proofs.lemmas.Bool.Decides.{nat_tests}
use Rattle.wsn_print.specs.EscapedText.{is_from}
use Rattle.wsn_laws.specs.JsonText.{Are, ◌and_then◌, ◌or_else◌, Optional, AreDigits, StartAboveZero, IsInteger, IsFraction, IsExponent, IsNumber}
use Rattle.wsn_rules.specs.ShownCapture.{IsDigit}

-- A character that numbers have.
abbrev pub is_numeric : ℕ → Bool
is_numeric b = is_from 48 57 b || b == 43 || b == 45 || b == 46 || b == 69 || b == 101

abbrev pub AreNumeric : List ℕ → Type 0
AreNumeric = AllByRecursion (λ b. is_numeric b ≡ true)

-- The bytes don't continue a number.
abbrev pub Stops : List ℕ → Type 0
Stops [] = ⊤
Stops (b ∷ bytes) = is_numeric b ≡ false

both : (xs ys : List ℕ) → AreNumeric xs → AreNumeric ys → AreNumeric (xs ++ ys)
both [] ys a b = b
both (x ∷ xs) ys a b = (a.0, both xs ys a.1 b)

these : (numeric : List ℕ) → AreNumeric numeric → (bytes : List ℕ) → Are numeric bytes → AreNumeric bytes
these numeric are bytes is = subst AreNumeric (sym is) are

sequence : (P Q : List ℕ → Type 0) → ((bytes : List ℕ) → P bytes → AreNumeric bytes) → ((bytes : List ℕ) → Q bytes → AreNumeric bytes)
    → (bytes : List ℕ) → (P and_then Q) bytes → AreNumeric bytes
sequence P Q p q bytes is = subst AreNumeric (sym is.2) (both is.0 is.1 (p is.0 is.3) (q is.1 is.4))

choice : (P Q : List ℕ → Type 0) → ((bytes : List ℕ) → P bytes → AreNumeric bytes) → ((bytes : List ℕ) → Q bytes → AreNumeric bytes)
    → (bytes : List ℕ) → (P or_else Q) bytes → AreNumeric bytes
choice P Q p q bytes (inl is) = p bytes is
choice P Q p q bytes (inr is) = q bytes is

option : (P : List ℕ → Type 0) → ((bytes : List ℕ) → P bytes → AreNumeric bytes) → (bytes : List ℕ) → Optional P bytes → AreNumeric bytes
option P p = choice (Are []) P (these [] tt) p

digit : (b : ℕ) → IsDigit b → is_numeric b ≡ true
digit b is = grind (arith, nat_tests, is.0, is.1)

above_zero : (b : ℕ) → 49 ≤ b → b ≤ 57 → is_numeric b ≡ true
above_zero b low high = grind (arith, nat_tests)

all_digits : (bytes : List ℕ) → AllByRecursion IsDigit bytes → AreNumeric bytes
all_digits [] are = tt
all_digits (b ∷ bytes) are = (digit b are.0, all_digits bytes are.1)

digits : (bytes : List ℕ) → AreDigits bytes → AreNumeric bytes
digits bytes are = all_digits bytes are.1

start : (bytes : List ℕ) → StartAboveZero bytes → AreNumeric bytes
start bytes is = subst AreNumeric (sym is.2) (above_zero is.0 is.3 is.4, all_digits is.1 is.5)

integer : (bytes : List ℕ) → IsInteger bytes → AreNumeric bytes
integer = choice (Are (codes "0")) StartAboveZero (these (codes "0") (refl, tt)) start

fraction : (bytes : List ℕ) → IsFraction bytes → AreNumeric bytes
fraction = sequence (Are (codes ".")) AreDigits (these (codes ".") (refl, tt)) digits

exponent : (bytes : List ℕ) → IsExponent bytes → AreNumeric bytes
exponent =
    sequence (Are (codes "e") or_else Are (codes "E")) (Optional (Are (codes "+") or_else Are (codes "-")) and_then AreDigits)
    (choice (Are (codes "e")) (Are (codes "E")) (these (codes "e") (refl, tt)) (these (codes "E") (refl, tt)))
    (sequence (Optional (Are (codes "+") or_else Are (codes "-"))) AreDigits
    (option (Are (codes "+") or_else Are (codes "-")) (choice (Are (codes "+")) (Are (codes "-")) (these (codes "+") (refl, tt)) (these (codes "-") (refl, tt))))
    digits)

pub number_characters : (bytes : List ℕ) → IsNumber bytes → AreNumeric bytes
number_characters =
    sequence (Optional (Are (codes "-"))) (IsInteger and_then Optional IsFraction and_then Optional IsExponent)
    (option (Are (codes "-")) (these (codes "-") (refl, tt)))
    (sequence IsInteger (Optional IsFraction and_then Optional IsExponent) integer
    (sequence (Optional IsFraction) (Optional IsExponent) (option IsFraction fraction) (option IsExponent exponent)))

some_integer : (bytes : List ℕ) → IsInteger bytes → 0 < length bytes
some_integer bytes (inl is) = omega (arith, ap length is)
some_integer bytes (inr is) = omega (arith, ap length is.2)

pub some_number : (bytes : List ℕ) → IsNumber bytes → 0 < length bytes
some_number bytes is =
    let some = some_integer is.4.0 is.4.3 in
    omega (arith, some, ap length is.2, length-append is.0 is.1, ap length is.4.2, length-append is.4.0 is.4.1)

pub one_number : (xs ys r t : List ℕ) → AreNumeric xs → AreNumeric ys → Stops r → Stops t → xs ++ r ≡ ys ++ t → (xs ≡ ys) × (r ≡ t)
one_number [] [] r t a b stops also same = (refl, same)
one_number [] (y ∷ ys) r t a b stops also same =
    let no : is_numeric y ≡ false = subst Stops same stops in
    let yes : is_numeric y ≡ true = b.0 in
    absurd cc
one_number (x ∷ xs) [] r t a b stops also same =
    let no : is_numeric x ≡ false = subst Stops (sym same) also in
    let yes : is_numeric x ≡ true = a.0 in
    absurd cc
one_number (x ∷ xs) (y ∷ ys) r t a b stops also same =
    let heads : x ≡ y = cc in
    let following : xs ++ r ≡ ys ++ t = cc in
    let others = one_number xs ys r t a.1 b.1 stops also following in
    let tails : xs ≡ ys = others.0 in
    (cc, others.1)
