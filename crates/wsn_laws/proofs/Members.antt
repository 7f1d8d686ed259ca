-- Members as they are written, one after another.
use Rattle.std.proofs.Common.{◌≡◌, ℕ, Option, Bool, true, false, List, [], ◌∷◌, ◌++◌, refl, sym, ap, ◌∙◌, append_assoc}
use Rattle.std.specs.Prelude.{decimal}
use Rattle.wsn_print.specs.Json.{string_of, boolean, number_or_null, field}
use Rattle.wsn_laws.specs.JsonText.{Value, True, False, String, Members, Member}
use Rattle.wsn_laws.proofs.Written.{write, write_others}
use Rattle.wsn_laws.proofs.Fields.{number, optional_number, optional_written, value_member}

-- The value is written as this text.
pub record IsWritten (v : Value) (text : List ℕ) : Type 0 where
  pub is : (rest : List ℕ) → write v rest ≡ text ++ rest

-- These members, which aren't the first, are written with the rest as this text.
pub record AreWritten (members : Members) (rest text : List ℕ) : Type 0 where
  pub are : write_others members rest ≡ text

pub member : {v : Value} {text rest following : List ℕ} {others : Members} (key : List ℕ) → IsWritten v text → AreWritten others rest following
    → AreWritten (Member key v others) rest (field key text ++ following)
member {v} {text} {rest} {following} {others} key value after = record {
  are =
      ap (λ (bs : List ℕ). 44 ∷ 34 ∷ (key ++ (34 ∷ 58 ∷ bs))) (value.is (write_others others rest))
      ∙ ap (λ (bs : List ℕ). 44 ∷ 34 ∷ (key ++ (34 ∷ 58 ∷ (text ++ bs)))) after.are
      ∙ value_member key text following;
}

-- ---- values

pub number_is : (n : ℕ) → IsWritten (number n) (decimal n)
number_is n = record { is = λ rest. refl }

pub optional_is : (n : Option ℕ) → IsWritten (optional_number n) (number_or_null n)
optional_is n = record { is = optional_written n }

pub word_is : (word : List ℕ) → IsWritten (String word) (string_of word)
word_is word = record { is = λ rest. ap (λ (bs : List ℕ). 34 ∷ bs) (sym (append_assoc word (34 ∷ []) rest)) }

abbrev pub boolean_json : Bool → Value
boolean_json true = True
boolean_json false = False

pub boolean_is : (b : Bool) → IsWritten (boolean_json b) (boolean b)
boolean_is true = record { is = λ rest. refl }
boolean_is false = record { is = λ rest. refl }

pub one_boolean : (b c : Bool) → boolean_json b ≡ boolean_json c → b ≡ c
one_boolean true true same = refl
one_boolean true false same = absurd cc
one_boolean false true same = absurd cc
one_boolean false false same = refl
