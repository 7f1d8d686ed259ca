-- The fields of a line that is split at its first space, and of the text after its first word.
use Rattle.std.proofs.Common.{◌≡◌, ◌≢◌, ℕ, Option, None, Some, List, [], ◌++◌, codes, refl, sym, subst, ◌∙◌, arith}
use Rattle.std.proofs.lemmas.List.{append-nil}
use Rattle.wsn_plan_text.specs.PlanText.{HasNo, preceded_by, IsField, Fields, OfPiece, OfLast, HasFields}
use Rattle.wsn_plan_text.specs.Splits.{IsSplit, AreKeyAndForm, rest_of, AreFieldsAfter}
use Rattle.wsn_plan_text.proofs.OneSplit.{one_cut}
use Rattle.wsn_plan_text.proofs.FieldsOfLine.{fields_at_cut, from_parts, parts_of}

-- a text that isn't a field
pub cut_is_no_field : (text first rest : List ℕ) → IsSplit 32 text first (Some rest) → IsField text → ⊥
cut_is_no_field text first rest split field =
    cc ((one_cut 32 text first None (Some rest) field.1 split.0 (append-nil text ∙ split.1)).1)

pub uncut_is_clear : (text first : List ℕ) → IsSplit 32 text first None → HasNo 32 text
uncut_is_clear text first split = subst (HasNo 32) (sym (split.1 ∙ append-nil first)) split.0

-- a key and a form, if the text is split at its first space
pub at_first_space : (text key other : List ℕ) (form more : Option (List ℕ)) → IsSplit 32 text key form → AreKeyAndForm text other more
    → (key ≡ other) × (form ≡ more)
at_first_space text key other form more split are = one_cut 32 key other form more split.0 are.0.1 (sym split.1 ∙ are.2)

-- ---- texts that aren't the fields of a piece, of a last or of a control

pub piece_from_parts : (rest number more : List ℕ) → IsSplit 32 rest number (Some more) → number ≢ [] → (key : List ℕ) (form : Option (List ℕ))
    → AreKeyAndForm more key form → AreFieldsAfter (codes "piece") rest (OfPiece number key form)
piece_from_parts rest number more split fact key form are = grind arith

-- a piece's fields, if the text after the word is split at its first space
pub piece_at_cut : (rest number : List ℕ) (more : Option (List ℕ)) (fields : Fields) → IsSplit 32 rest number more
    → AreFieldsAfter (codes "piece") rest fields
    → (number ≢ []) × ((text : List ℕ) × (key : List ℕ) × (form : Option (List ℕ)) × (more ≡ Some text) × AreKeyAndForm text key form)
piece_at_cut rest number more (OfPiece other key form) split are =
    let same = one_cut 32 number other more (Some (key ++ preceded_by 32 form)) split.0 are.0.0.1 (sym split.1 ∙ sym are.2) in (
      λ none. are.0.0.0 (sym same.0 ∙ none),
      (key ++ preceded_by 32 form, key, form, same.1, (are.0.1, are.0.2, refl)),
    )
piece_at_cut rest number more _ split are = absurd (cc are.1)

pub last_is_key_and_form : (rest : List ℕ) (fields : Fields) → AreFieldsAfter (codes "last") rest fields
    → (key : List ℕ) × (form : Option (List ℕ)) × AreKeyAndForm rest key form
last_is_key_and_form rest (OfLast key form) are = (key, form, (are.0.0, are.0.1, sym are.2))
last_is_key_and_form rest _ are = absurd (cc are.1)

pub control_is_field : (rest : List ℕ) (fields : Fields) → AreFieldsAfter (codes "control") rest fields → IsField rest
control_is_field rest fields are = grind arith

pub no_other_word : (word rest : List ℕ) (fields : Fields) → word ≢ codes "piece" → word ≢ codes "last" → word ≢ codes "control"
    → AreFieldsAfter word rest fields → ⊥
no_other_word word rest fields piece last control are = grind arith

-- ---- a line that is split at its first space

pub fields_from_cut : (line word rest : List ℕ) (fields : Fields) → IsSplit 32 line word (Some rest) → AreFieldsAfter word rest fields → HasFields line fields
fields_from_cut line word rest fields split are = grind (arith, from_parts)

pub fields_after_cut : (line word rest : List ℕ) (fields : Fields) → IsSplit 32 line word (Some rest) → HasFields line fields → AreFieldsAfter word rest fields
fields_after_cut line word rest fields split has =
    let same = fields_at_cut line word (Some rest) fields split.0 split.1 has in
    let rests : rest_of fields ≡ rest = cc in
    ((parts_of line fields has).0, sym same.0, rests)

pub no_fields_uncut : (line word : List ℕ) (fields : Fields) → IsSplit 32 line word None → HasFields line fields → ⊥
no_fields_uncut line word fields split has =
    cc ((fields_at_cut line word None fields split.0 split.1 has).1)
