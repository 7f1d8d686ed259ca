-- A line encodes a step exactly if it has fields that encode it, and then it encodes no other.
use Rattle.std.proofs.Common.{◌≡◌, ℕ, List, ◌++◌, codes, refl, sym, ap, ◌∙◌, arith}
use Rattle.wsn_wire.specs.declared.length_encoding.Form.TheVariants.{Shortest}
use Rattle.wsn_rules.specs.declared.step.Step.{Step}
use Rattle.wsn_rules.specs.declared.step.Step.TheVariants as step
use Rattle.wsn_print.specs.HeadText.{form_text}
use Rattle.wsn_plan_text.specs.PlanText.{preceded_by, Fields, OfPiece, OfLast, OfControl, HasFields, HasNumber, HasKey, HasForm, EncodesNumber, EncodesKey, EncodesStep}
use Rattle.wsn_plan_text.proofs.FieldsOfLine.{one_list_of_fields}
use Rattle.wsn_plan_text.proofs.EncodedFields.{number_is_field, key_is_field, field_of, form_as_field, form_is_field, one_number, one_key, one_form}

-- These fields encode this step.
abbrev pub Tell : Fields → Step → Type 0
Tell (OfPiece number key form) (step.Piece len code encoded) =
    EncodesNumber number len × EncodesKey key code × (preceded_by 32 form ≡ form_text encoded)
Tell (OfPiece number key form) (step.Last code encoded) = ⊥
Tell (OfPiece number key form) (step.Control code) = ⊥
Tell (OfLast key form) (step.Piece len code encoded) = ⊥
Tell (OfLast key form) (step.Last code encoded) = EncodesKey key code × (preceded_by 32 form ≡ form_text encoded)
Tell (OfLast key form) (step.Control code) = ⊥
Tell (OfControl key) (step.Piece len code encoded) = ⊥
Tell (OfControl key) (step.Last code encoded) = ⊥
Tell (OfControl key) (step.Control code) = EncodesKey key code

pub fields_of_step : (line : List ℕ) (step : Step) → EncodesStep line step → (fields : Fields) × HasFields line fields × Tell fields step
fields_of_step line (step.Piece len key form) spells = (
  OfPiece spells.0 spells.1 (field_of form),
  (
    number_is_field spells.0 len spells.2,
    key_is_field spells.1 key spells.3,
    form_is_field form,
    spells.4 ∙ ap (λ (text : List ℕ). codes "piece " ++ spells.0 ++ codes " " ++ spells.1 ++ text) (form_as_field form),
  ),
  (spells.2, spells.3, sym (form_as_field form)),
)
fields_of_step line (step.Last key form) spells = (
  OfLast spells.0 (field_of form),
  (
    key_is_field spells.0 key spells.1,
    form_is_field form,
    spells.2 ∙ ap (λ (text : List ℕ). codes "last " ++ spells.0 ++ text) (form_as_field form),
  ),
  (spells.1, sym (form_as_field form)),
)
fields_of_step line (step.Control key) spells = (OfControl spells.0, (key_is_field spells.0 key spells.1, spells.2), spells.1)

pub step_of_fields : (line : List ℕ) (fields : Fields) (step : Step) → HasFields line fields → Tell fields step → EncodesStep line step
step_of_fields line fields step has tell = grind arith

-- ---- fields that encode a step encode each of its parts, and the other way round

pub reported_parts : (fields : Fields) (step : Step) → Tell fields step → HasNumber fields × HasKey fields × HasForm fields
reported_parts (OfPiece number key form) (step.Piece len code encoded) tell = ((len, tell.0), (code, tell.1), (encoded, tell.2))
reported_parts (OfLast key form) (step.Last code encoded) tell = (tt, (code, tell.0), (encoded, tell.1))
reported_parts (OfControl key) (step.Control code) tell = (tt, (code, tell), (Shortest, refl))
reported_parts _ _ tell = absurd tell

unfoldable pub step_of_parts : (fields : Fields) → HasNumber fields → HasKey fields → HasForm fields → (step : Step) × Tell fields step
step_of_parts (OfPiece number key form) numbers keys forms = (step.Piece numbers.0 keys.0 forms.0, (numbers.1, keys.1, forms.1))
step_of_parts (OfLast key form) numbers keys forms = (step.Last keys.0 forms.0, (keys.1, forms.1))
step_of_parts (OfControl key) numbers keys forms = (step.Control keys.0, keys.1)

-- ---- one step

one_reported : (fields : Fields) (step other : Step) → Tell fields step → Tell fields other → step ≡ other
one_reported (OfPiece number key form) (step.Piece len code encoded) (step.Piece size other also_encoded) tell also =
    let lens : len ≡ size = one_number number len size tell.0 also.0 in
    let keys : code ≡ other = one_key key code other tell.1 also.1 in
    let forms : encoded ≡ also_encoded = one_form encoded also_encoded (sym tell.2 ∙ also.2) in
    cc
one_reported (OfPiece number key form) (step.Last code encoded) other tell also = absurd tell
one_reported (OfPiece number key form) (step.Control code) other tell also = absurd tell
one_reported (OfLast key form) (step.Piece len code encoded) other tell also = absurd tell
one_reported (OfLast key form) (step.Last code encoded) (step.Last other also_encoded) tell also =
    let keys : code ≡ other = one_key key code other tell.0 also.0 in
    let forms : encoded ≡ also_encoded = one_form encoded also_encoded (sym tell.1 ∙ also.1) in
    cc
one_reported (OfLast key form) (step.Control code) other tell also = absurd tell
one_reported (OfControl key) (step.Piece len code encoded) other tell also = absurd tell
one_reported (OfControl key) (step.Last code encoded) other tell also = absurd tell
one_reported (OfControl key) (step.Control code) (step.Control other) tell also = ap step.Control (one_key key code other tell also)
one_reported _ _ _ tell also = absurd also

pub one_step : (line : List ℕ) (step other : Step) → EncodesStep line step → EncodesStep line other → step ≡ other
one_step line step other spells also =
    let f = fields_of_step line step spells in
    let g = fields_of_step line other also in
    one_reported f.0 step other f.2 (rw (one_list_of_fields line g.0 f.0 g.1 f.1) at g.2)
