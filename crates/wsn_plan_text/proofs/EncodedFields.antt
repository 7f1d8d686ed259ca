-- A field encodes at most one number, key or form; and numbers, keys and forms are written as fields.
use Rattle.std.proofs.Common.{◌≡◌, ◌≢◌, ℕ, ◌<◌, Option, None, Some, List, [], ◌∷◌, length, codes, sym, ap, subst, ◌∙◌, true, arith}
use Rattle.std.specs.Prelude.{decimal, IfSome}
use Rattle.std.specs.Str.Parse.{AllDigits}
use Rattle.std.specs.List.{AllPass}
use Rattle.std.proofs.lemmas.Fmt.{decimal_is_IsNumeral, decimal_injective}
use Rattle.std.proofs.lemmas.Str.Parse.{digit_from_value}
use Rattle.std.proofs.lemmas.List.Elements.{All-head, All-tail}
use Rattle.hex.specs.Hex.{is_hex_digit}
use Rattle.hex.proofs.HexLemmas.{decode_of-ok}
use Rattle.wsn_wire.specs.declared.length_encoding.Form.{Form}
use Rattle.wsn_wire.specs.declared.length_encoding.Form.TheVariants.{Shortest, Two, Eight}
use Rattle.wsn_print.specs.HeadText.{form_text}
use Rattle.wsn_rules.proofs.Prefixes.{nil-cons}
use Rattle.wsn_plan_text.specs.PlanText.{HasNo, preceded_by, IsField, EncodesNumber, EncodesKey}

-- ---- numbers

-- digits have no byte below the digits
digits_have_no : (byte : ℕ) (digits : List ℕ) → byte < 48 → AllDigits 10 digits → HasNo byte digits
digits_have_no byte [] low all = tt
digits_have_no byte (digit ∷ digits) low all =
    (omega (arith, digit_from_value digit all.0), digits_have_no byte digits low all.1)

pub number_has_no : (byte : ℕ) (text : List ℕ) (n : ℕ) → byte < 48 → EncodesNumber text n → HasNo byte text
number_has_no byte text n low spells =
    subst (HasNo byte) (sym spells.1) (digits_have_no byte (decimal n) low (decimal_is_IsNumeral n spells.0).0.1)

some_digits : (digits : List ℕ) → 0 < length digits → digits ≢ []
some_digits digits some e = let none = ap (λ (text : List ℕ). length text) e in omega (arith, none)

pub number_is_field : (text : List ℕ) (n : ℕ) → EncodesNumber text n → IsField text
number_is_field text n spells =
    let IsSome : List ℕ → Type 0 = λ other. other ≢ [] in
    (subst IsSome (sym spells.1) (some_digits (decimal n) (decimal_is_IsNumeral n spells.0).0.0), number_has_no 32 text n (omega arith) spells)

pub one_number : (text : List ℕ) (n m : ℕ) → EncodesNumber text n → EncodesNumber text m → n ≡ m
one_number text n m spells also = decimal_injective n m spells.0 also.0 (sym spells.1 ∙ also.1)

-- ---- keys

hex_digits_have_no : (byte : ℕ) (digits : List ℕ) → (is_hex_digit byte ≡ true → ⊥) → AllPass is_hex_digit digits → HasNo byte digits
hex_digits_have_no byte [] differs all = tt
hex_digits_have_no byte (digit ∷ digits) differs all =
    let IsDigit : ℕ → Type 0 = λ other. is_hex_digit other ≡ true in
    let here : is_hex_digit digit ≡ true = All-head IsDigit digit digits all in (
      λ e. differs (subst IsDigit e here),
      hex_digits_have_no byte digits differs (All-tail IsDigit digit digits all),
    )

-- a byte that is neither a digit nor a dash
pub key_has_no : (byte : ℕ) (text : List ℕ) (key : Option (List ℕ)) → (is_hex_digit byte ≡ true → ⊥) → 45 ≢ byte
    → EncodesKey text key → HasNo byte text
key_has_no byte text None differs dash spells = subst (HasNo byte) (sym spells) (dash, tt)
key_has_no byte text (Some key) differs dash spells = hex_digits_have_no byte text differs (decode_of-ok text key spells.1).1

pub key_is_field : (text : List ℕ) (key : Option (List ℕ)) → EncodesKey text key → IsField text
key_is_field text key spells = grind (arith, nil-cons, key_has_no, some_digits)

dash_is_short : (text : List ℕ) → text ≡ codes "-" → length text ≡ 8 → ⊥
dash_is_short text e eight = let one = ap (λ (other : List ℕ). length other) e in omega (arith, one, eight)

pub one_key : (text : List ℕ) (key other : Option (List ℕ)) → EncodesKey text key → EncodesKey text other → key ≡ other
one_key text key other spells also = grind (arith, dash_is_short)

-- ---- forms

-- the field of a form; none, if it's the shortest
abbrev pub field_of : Form → Option (List ℕ)
field_of Shortest = None
field_of Two = Some (codes "two")
field_of Eight = Some (codes "eight")

pub form_as_field : (form : Form) → form_text form ≡ preceded_by 32 (field_of form)
form_as_field form = grind arith

pub form_is_field : (form : Form) → IfSome (field_of form) IsField
form_is_field form = grind (arith, nil-cons)

pub one_form : (form other : Form) → form_text form ≡ form_text other → form ≡ other
one_form form other e = grind arith

pub form_has_no_lf : (form : Form) → HasNo 10 (form_text form)
form_has_no_lf form = grind arith
