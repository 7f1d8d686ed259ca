-- What a line's first space says of its fields.
use Rattle.std.proofs.Common.{◌≡◌, ◌≢◌, ℕ, Bool, true, false, not, Option, None, Some, List, [], ◌∷◌, length, codes, refl, sym, ap, subst, ◌∙◌, arith, nat_eq, Bor}
use Rattle.std.specs.Prelude.{IsTrue, ◌↔◌, IfSome, MatchOption, is_some}
use Rattle.std.specs.Option.{option_copied}
use Rattle.std.proofs.lemmas.Bool.{eqb-true, eqb-false}
use Rattle.wsn_plan_text.specs.PlanText.{IsField, Fields, HasFields}
use Rattle.wsn_plan_text.specs.Splits.{IsSplit, AreKeyAndForm, AreFieldsAfter, seen}
use Rattle.wsn_plan_text.specs.declared.line_fields.Fields as declared
use Rattle.wsn_plan_text.proofs.FieldsAfterWords.{at_first_space, cut_is_no_field, uncut_is_clear, piece_at_cut, fields_from_cut, fields_after_cut}

none_of_length_0 : (text : List ℕ) → length text ≡ 0 → text ≡ []
none_of_length_0 [] e = refl
none_of_length_0 (x ∷ text) e = absurd (omega arith)

pub empty_text : (text : List ℕ) (empty : Bool) → empty ≡ nat_eq (length text) 0 → empty ≡ true → text ≡ []
empty_text text empty e is_true = none_of_length_0 text (eqb-true (length text) 0 (sym e ∙ is_true))

pub some_text : (text : List ℕ) (empty : Bool) → empty ≡ nat_eq (length text) 0 → empty ≡ false → text ≢ []
some_text text empty e is_false none = eqb-false (length text) 0 (sym e ∙ is_false) (ap (λ (other : List ℕ). length other) none)

pub field_test : (text first : List ℕ) (rest : Option (Bor (List ℕ))) (whole : Bool) → IsSplit 32 text first (option_copied rest) → text ≢ []
    → is_some rest ≡ not whole → IsTrue whole ↔ IsField text
field_test text first rest whole split fact e = grind (arith, uncut_is_clear, cut_is_no_field)

pub empty_key : (text key other : List ℕ) (rest form : Option (List ℕ)) → IsSplit 32 text key rest → key ≡ [] → AreKeyAndForm text other form → ⊥
empty_key text key other rest form split none are =
    are.0.0 (sym (at_first_space text key other rest form split are).0 ∙ none)

pub bad_form : (text key other form : List ℕ) (rest more : Option (List ℕ)) → IsSplit 32 text key rest → rest ≡ Some form → (IsField form → ⊥)
    → AreKeyAndForm text other more → ⊥
bad_form text key other form rest more split e bad are =
    let P : Option (List ℕ) → Type 0 = λ field. IfSome field IsField in
    bad (subst P (sym (at_first_space text key other rest more split are).1 ∙ e) are.1)

pub piece_ends : (rest number : List ℕ) (more : Option (List ℕ)) (fields : Fields) → IsSplit 32 rest number more → more ≡ None
    → AreFieldsAfter (codes "piece") rest fields → ⊥
piece_ends rest number more fields split none are =
    let parts = piece_at_cut rest number more fields split are in
    cc (sym none ∙ parts.1.3)

pub piece_without_key : (rest number text : List ℕ) (more : Option (List ℕ)) (fields : Fields) → IsSplit 32 rest number more → more ≡ Some text
    → ((key : List ℕ) (form : Option (List ℕ)) → ¬ (AreKeyAndForm text key form)) → AreFieldsAfter (codes "piece") rest fields → ⊥
piece_without_key rest number text more fields split e none are =
    let parts = piece_at_cut rest number more fields split are in
    let same : parts.1.0 ≡ text = cc (sym parts.1.3 ∙ e) in
    none parts.1.1 parts.1.2 (subst (λ (other : List ℕ). AreKeyAndForm other parts.1.1 parts.1.2) same parts.1.4)

pub fields_of_cut : (line word rest : List ℕ) (more : Option (List ℕ)) (result : Option declared.Fields) → IsSplit 32 line word more → more ≡ Some rest
    → MatchOption result ((fields : Fields) → ¬ (AreFieldsAfter word rest fields)) (λ fields. AreFieldsAfter word rest (seen fields))
    → MatchOption result ((fields : Fields) → ¬ (HasFields line fields)) (λ fields. HasFields line (seen fields))
fields_of_cut line word rest more result split e none = grind (arith, fields_after_cut, fields_from_cut)
