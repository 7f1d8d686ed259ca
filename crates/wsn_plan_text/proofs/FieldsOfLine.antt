-- A line has its fields in one way: its first word and the text after it determine them.
use Rattle.std.proofs.Common.{◌≡◌, ℕ, Option, Some, List, ◌∷◌, ◌++◌, codes, refl, sym, ◌∙◌, append_assoc, arith}
use Rattle.wsn_plan_text.specs.PlanText.{HasNo, preceded_by, Fields, HasFields}
use Rattle.wsn_plan_text.specs.Splits.{AreFields, first_word, rest_of}
use Rattle.wsn_plan_text.proofs.OneSplit.{one_cut}

pub word_has_no_space : (fields : Fields) → HasNo 32 (first_word fields)
word_has_no_space fields = grind arith

-- ---- a line is its word, a space and the rest

piece_as_parts : (number key : List ℕ) (form : Option (List ℕ))
    → codes "piece " ++ number ++ codes " " ++ key ++ preceded_by 32 form ≡ codes "piece" ++ 32 ∷ (number ++ 32 ∷ (key ++ preceded_by 32 form))
piece_as_parts number key form = grind (arith, append_assoc)

last_as_parts : (key : List ℕ) (form : Option (List ℕ)) → codes "last " ++ key ++ preceded_by 32 form ≡ codes "last" ++ 32 ∷ (key ++ preceded_by 32 form)
last_as_parts key form = refl

pub parts_of : (line : List ℕ) (fields : Fields) → HasFields line fields → AreFields fields × (line ≡ first_word fields ++ 32 ∷ rest_of fields)
parts_of line fields has = grind (arith, piece_as_parts, last_as_parts)

pub from_parts : (line : List ℕ) (fields : Fields) → AreFields fields → line ≡ first_word fields ++ 32 ∷ rest_of fields → HasFields line fields
from_parts line fields are e = grind (arith, piece_as_parts, last_as_parts)

-- ---- only one way

-- the text after a word, as a number and the rest
number_and_rest : (number other key more : List ℕ) → HasNo 32 number → HasNo 32 other → number ++ 32 ∷ key ≡ other ++ 32 ∷ more
    → (number ≡ other) × (key ≡ more)
number_and_rest number other key more clear also e =
    let split = one_cut 32 number other (Some key) (Some more) clear also e in
    let rests : key ≡ more = cc in
    (split.0, rests)

same_rest : (fields others : Fields) → AreFields fields → AreFields others → first_word fields ≡ first_word others → rest_of fields ≡ rest_of others
    → fields ≡ others
same_rest fields others are also words rests = grind (arith, number_and_rest, one_cut)

-- a line that is split at its first space
pub fields_at_cut : (line word : List ℕ) (rest : Option (List ℕ)) (fields : Fields) → HasNo 32 word → line ≡ word ++ preceded_by 32 rest
    → HasFields line fields → (word ≡ first_word fields) × (rest ≡ Some (rest_of fields))
fields_at_cut line word rest fields clear e has =
    one_cut 32 word (first_word fields) rest (Some (rest_of fields)) clear (word_has_no_space fields) (sym e ∙ (parts_of line fields has).1)

pub one_list_of_fields : (line : List ℕ) (fields others : Fields) → HasFields line fields → HasFields line others → fields ≡ others
one_list_of_fields line fields others has also = grind (arith, parts_of, fields_at_cut, word_has_no_space, same_rest)
