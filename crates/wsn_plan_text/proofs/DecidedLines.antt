-- Every line encodes a step or has a first fault.
use Rattle.std.proofs.Common.{◌≡◌, ◌≢◌, ℕ, ◌^◌, ◌⊎◌, Option, None, Some, List, [], ◌∷◌, length, codes, Result, Ok, Err, refl, sym, ap, subst, ◌∙◌, inl, inr, arith}
use Rattle.std.specs.Fmt.{digits}
use Rattle.std.specs.Prelude.{decimal, IfSome}
use Rattle.std.specs.Str.Parse.{digits_value}
use Rattle.std.proofs.lemmas.Fmt.{decimal_is_IsNumeral}
use Rattle.hex.specs.Hex.{decode_of, decode_pairs}
use Rattle.hex.specs.declared.error.FromHexError.{FromHexError}
use Rattle.wsn_wire.specs.declared.length_encoding.Form.{Form}
use Rattle.wsn_wire.specs.declared.length_encoding.Form.TheVariants.{Shortest, Two, Eight}
use Rattle.wsn_rules.specs.declared.step.Step.{Step}
use Rattle.wsn_print.specs.HeadText.{form_text}
use Rattle.wsn_rules.proofs.Computed.{less_or_not, same_or_not as equal_or_not}
use Rattle.wsn_rules.proofs.Prefixes.{head_same, tail_same, cons_same, nil-cons}
use Rattle.wsn_plan_text.specs.declared.plan_fault.LineWhy.{LineWhy}
use Rattle.wsn_plan_text.specs.declared.plan_fault.LineWhy.TheVariants.{BadForm, BadNumber, BadKey, BadLength}
use Rattle.wsn_plan_text.specs.PlanText.{preceded_by, IsField, Fields, OfPiece, OfLast, OfControl, HasFields, HasNumber, key_field, form_field, EncodesNumber, EncodesKey, EncodesStep, IsLineFault}
use Rattle.wsn_plan_text.specs.Splits.{IsSplit, AreKeyAndForm, AreFieldsAfter}
use Rattle.wsn_plan_text.proofs.FieldsAfterWords.{cut_is_no_field, uncut_is_clear, at_first_space, piece_from_parts, piece_at_cut, last_is_key_and_form, control_is_field, no_other_word, fields_from_cut, fields_after_cut, no_fields_uncut}
use Rattle.wsn_plan_text.proofs.EncodedLines.{step_of_parts, step_of_fields}

same_or_not : (text other : List ℕ) → (text ≡ other) ⊎ (text ≡ other → ⊥)
same_or_not [] [] = inl refl
same_or_not [] (y ∷ other) = inr (λ e. nil-cons y other e)
same_or_not (x ∷ text) [] = inr (λ e. nil-cons x text (sym e))
same_or_not (x ∷ text) (y ∷ other) =
    elim (equal_or_not x y) [
      | inl heads ↦
          elim (same_or_not text other) [
            | inl rests ↦ inl (cons_same x y text other heads rests)
            | inr differ ↦ inr (λ e. differ (tail_same x y text other e))
          ]
      | inr differ ↦ inr (λ e. differ (head_same x y text other e))
    ]

-- ---- the parts

pub value_of_number : (text : List ℕ) (n : ℕ) → EncodesNumber text n → digits_value 10 text ≡ n
value_of_number text n spells = ap (λ (digits : List ℕ). digits_value 10 digits) spells.1 ∙ (decimal_is_IsNumeral n spells.0).1

number_or_none : (text : List ℕ) → ((n : ℕ) × EncodesNumber text n) ⊎ (((n : ℕ) × EncodesNumber text n) → ⊥)
number_or_none text =
    elim (same_or_not text (decimal (digits_value 10 text))) [
      | inl same ↦
          elim (less_or_not (digits_value 10 text) (2 ^ 64)) [
            | inl small ↦ inl (digits_value 10 text, (small, same))
            | inr large ↦ inr (λ p. let value = value_of_number text p.0 p.1 in let small = p.1.0 in omega (arith, value, small))
          ]
      | inr differ ↦ inr (λ p. differ (p.1.1 ∙ ap decimal (sym (value_of_number text p.0 p.1))))
    ]

pub not_undecoded : (text : List ℕ) (fault : FromHexError) (key : Option (List ℕ)) → decode_of text ≡ Err fault → text ≢ codes "-" → EncodesKey text key → ⊥
not_undecoded text fault key e differ spells = grind arith

decoded_or_none : (text : List ℕ) (decoded : Result (List ℕ) FromHexError) → decode_of text ≡ decoded → text ≢ codes "-" → length text ≡ 8
    → ((key : Option (List ℕ)) × EncodesKey text key) ⊎ (((key : Option (List ℕ)) × EncodesKey text key) → ⊥)
decoded_or_none text (Ok key) e differ eight = inl (Some key, (eight, e))
decoded_or_none text (Err fault) e differ eight = inr (λ (key, spells). not_undecoded text fault key e differ spells)

pub not_of_another_length : (text : List ℕ) (key : Option (List ℕ)) → text ≢ codes "-" → length text ≢ 8 → EncodesKey text key → ⊥
not_of_another_length text key differ long spells = grind arith

key_or_none : (text : List ℕ) → ((key : Option (List ℕ)) × EncodesKey text key) ⊎ (((key : Option (List ℕ)) × EncodesKey text key) → ⊥)
key_or_none text =
    elim (same_or_not text (codes "-")) [
      | inl dash ↦ inl (None, dash)
      | inr differ ↦
          elim (equal_or_not (length text) 8) [
            | inl eight ↦ decoded_or_none text (decode_of text) refl differ eight
            | inr long ↦ inr (λ (key, spells). not_of_another_length text key differ long spells)
          ]
    ]

pub not_another_form : (text : List ℕ) (form : Form) → text ≢ codes "two" → text ≢ codes "eight" → 32 ∷ text ≡ form_text form → ⊥
not_another_form text form two eight e = grind (arith, nil-cons, tail_same)

form_or_none : (field : Option (List ℕ))
    → ((form : Form) × (preceded_by 32 field ≡ form_text form)) ⊎ (((form : Form) × (preceded_by 32 field ≡ form_text form)) → ⊥)
form_or_none None = inl (Shortest, refl)
form_or_none (Some text) =
    elim (same_or_not text (codes "two")) [
      | inl two ↦ inl (Two, ap (λ (other : List ℕ). 32 ∷ other) two)
      | inr not_two ↦
          elim (same_or_not text (codes "eight")) [
            | inl eight ↦ inl (Eight, ap (λ (other : List ℕ). 32 ∷ other) eight)
            | inr not_eight ↦ inr (λ (form, e). not_another_form text form not_two not_eight e)
          ]
    ]

-- ---- the fields

cut_at : (byte : ℕ) (text : List ℕ) → (first : List ℕ) × (rest : Option (List ℕ)) × IsSplit byte text first rest
cut_at byte [] = ([], None, (tt, refl))
cut_at byte (x ∷ text) =
    elim (equal_or_not x byte) [
      | inl here ↦ ([], Some text, (tt, ap (λ (n : ℕ). n ∷ text) here))
      | inr differs ↦
          let preceded_by = cut_at byte text in
          (x ∷ preceded_by.0, preceded_by.1, ((differs, preceded_by.2.0), ap (λ (other : List ℕ). x ∷ other) preceded_by.2.1))
    ]

some_or_none : (text : List ℕ) → (text ≢ []) ⊎ (text ≡ [])
some_or_none [] = inr refl
some_or_none (x ∷ text) = inl (λ e. nil-cons x text (sym e))

field_at_cut : (text first : List ℕ) (rest : Option (List ℕ)) → IsSplit 32 text first rest → IsField text ⊎ (IsField text → ⊥)
field_at_cut text first (Some rest) split = inr (cut_is_no_field text first rest split)
field_at_cut text first None split =
    elim (some_or_none text) [
      | inl some ↦ inl (some, uncut_is_clear text first split)
      | inr none ↦ inr (λ field. field.0 none)
    ]

field_or_not : (text : List ℕ) → IsField text ⊎ (IsField text → ⊥)
field_or_not text = let split = cut_at 32 text in field_at_cut text split.0 split.1 split.2

maybe_field_or_not : (form : Option (List ℕ)) → IfSome form IsField ⊎ (IfSome form IsField → ⊥)
maybe_field_or_not form = grind (arith, field_or_not)

abbrev KeyAndForm : List ℕ → Type 0
KeyAndForm text = (key : List ℕ) × (form : Option (List ℕ)) × AreKeyAndForm text key form

key_and_form_or_none : (text : List ℕ) → KeyAndForm text ⊎ (KeyAndForm text → ⊥)
key_and_form_or_none text =
    let split = cut_at 32 text in
    elim (some_or_none split.0) [
      | inl some ↦
          elim (maybe_field_or_not split.1) [
            | inl field ↦ inl (split.0, split.1, ((some, split.2.0), field, split.2.1))
            | inr not_field ↦
                inr (λ (key, form, are).
                let also : IfSome split.1 IsField = rw (at_first_space text split.0 key split.1 form split.2 are).1 are.1 in
                not_field also)
          ]
      | inr none ↦
          inr (λ (key, form, are).
          are.0.0 (sym (at_first_space text split.0 key split.1 form split.2 are).0 ∙ none))
    ]

abbrev FieldsBehind : List ℕ → List ℕ → Type 0
FieldsBehind word rest = (fields : Fields) × AreFieldsAfter word rest fields

-- ---- fields or none

piece_with_rest : (rest number : List ℕ) (more : Option (List ℕ)) → IsSplit 32 rest number more → number ≢ []
    → FieldsBehind (codes "piece") rest ⊎ (FieldsBehind (codes "piece") rest → ⊥)
piece_with_rest rest number None split some =
    inr (λ (fields, are). let parts = piece_at_cut rest number None fields split are in cc parts.1.3)
piece_with_rest rest number (Some text) split some =
    elim (key_and_form_or_none text) [
      | inl p ↦ inl (OfPiece number p.0 p.1, piece_from_parts rest number text split some p.0 p.1 p.2)
      | inr none ↦
          inr (λ (fields, are).
          let parts = piece_at_cut rest number (Some text) fields split are in
          let same : text ≡ parts.1.0 = cc parts.1.3 in
          none (parts.1.1, parts.1.2, subst (λ (other : List ℕ). AreKeyAndForm other parts.1.1 parts.1.2) (sym same) parts.1.4))
    ]

piece_or_none : (rest : List ℕ) → FieldsBehind (codes "piece") rest ⊎ (FieldsBehind (codes "piece") rest → ⊥)
piece_or_none rest =
    let split = cut_at 32 rest in
    elim (some_or_none split.0) [
      | inl some ↦ piece_with_rest rest split.0 split.1 split.2 some
      | inr none ↦ inr (λ (fields, are). (piece_at_cut rest split.0 split.1 fields split.2 are).0 none)
    ]

last_or_none : (rest : List ℕ) → FieldsBehind (codes "last") rest ⊎ (FieldsBehind (codes "last") rest → ⊥)
last_or_none rest =
    elim (key_and_form_or_none rest) [
      | inl p ↦ inl (OfLast p.0 p.1, ((p.2.0, p.2.1), refl, sym p.2.2))
      | inr none ↦ inr (λ (fields, are). none (last_is_key_and_form rest fields are))
    ]

control_or_none : (rest : List ℕ) → FieldsBehind (codes "control") rest ⊎ (FieldsBehind (codes "control") rest → ⊥)
control_or_none rest =
    elim (field_or_not rest) [
      | inl field ↦ inl (OfControl rest, (field, refl, refl))
      | inr not_field ↦ inr (λ (fields, are). not_field (control_is_field rest fields are))
    ]

fields_after_or_none : (word rest : List ℕ) → FieldsBehind word rest ⊎ (FieldsBehind word rest → ⊥)
fields_after_or_none word rest =
    elim (same_or_not word (codes "piece")) [
      | inl piece ↦ rw piece (piece_or_none rest)
      | inr not_piece ↦
          elim (same_or_not word (codes "last")) [
            | inl last ↦ rw last (last_or_none rest)
            | inr not_last ↦
                elim (same_or_not word (codes "control")) [
                  | inl control ↦ rw control (control_or_none rest)
                  | inr not_control ↦ inr (λ (fields, are). no_other_word word rest fields not_piece not_last not_control are)
                ]
          ]
    ]

with_cut : (line word : List ℕ) (rest : Option (List ℕ)) → IsSplit 32 line word rest
    → ((fields : Fields) × HasFields line fields) ⊎ ((fields : Fields) → ¬ (HasFields line fields))
with_cut line word None split = inr (λ fields has. no_fields_uncut line word fields split has)
with_cut line word (Some rest) split =
    elim (fields_after_or_none word rest) [
      | inl p ↦ inl (p.0, fields_from_cut line word rest p.0 split p.1)
      | inr none ↦ inr (λ fields has. none (fields, fields_after_cut line word rest fields split has))
    ]

has_number_or_not : (fields : Fields) → HasNumber fields ⊎ (HasNumber fields → ⊥)
has_number_or_not (OfPiece number key form) = number_or_none number
has_number_or_not _ = inl tt

with_fields : (line : List ℕ) (fields : Fields) → HasFields line fields
    → ((step : Step) × EncodesStep line step) ⊎ ((why : LineWhy) × IsLineFault line why)
with_fields line fields has =
    elim (has_number_or_not fields) [
      | inl number ↦
          elim (key_or_none (key_field fields)) [
            | inl key ↦
                elim (form_or_none (form_field fields)) [
                  | inl form ↦
                      let p = step_of_parts fields number key form in
                      inl (p.0, step_of_fields line fields p.0 has p.1)
                  | inr not_form ↦ inr (BadLength, (fields, has, number, key, not_form))
                ]
            | inr not_key ↦ inr (BadKey, (fields, has, number, not_key))
          ]
      | inr not_number ↦ inr (BadNumber, (fields, has, not_number))
    ]

pub step_or_fault : (line : List ℕ) → ((step : Step) × EncodesStep line step) ⊎ ((why : LineWhy) × IsLineFault line why)
step_or_fault line =
    let split = cut_at 32 line in
    elim (with_cut line split.0 split.1 split.2) [
      | inl p ↦ with_fields line p.0 p.1
      | inr none ↦ inr (BadForm, none)
    ]

-- ---- where it computes: for a line that is written out

abbrev pub StepOrFault : List ℕ → Type 0
StepOrFault line = ((step : Step) × EncodesStep line step) ⊎ ((why : LineWhy) × IsLineFault line why)

unfoldable pub decoded_line : (line : List ℕ) → StepOrFault line
unfolding digits decode_pairs less_or_not equal_or_not same_or_not number_or_none decoded_or_none key_or_none form_or_none cut_at some_or_none field_at_cut field_or_not maybe_field_or_not key_and_form_or_none piece_with_rest piece_or_none last_or_none control_or_none fields_after_or_none with_cut has_number_or_not step_of_parts with_fields step_or_fault
decoded_line line = step_or_fault line

abbrev pub IsFoundStep : {line : List ℕ} → Step → StepOrFault line → Type 0
IsFoundStep step (inl encoded) = encoded.0 ≡ step
IsFoundStep step (inr faulty) = ⊥

abbrev pub IsFoundFault : {line : List ℕ} → LineWhy → StepOrFault line → Type 0
IsFoundFault why (inl encoded) = ⊥
IsFoundFault why (inr faulty) = faulty.0 ≡ why

step_of : (line : List ℕ) (step : Step) (found : StepOrFault line) → IsFoundStep step found → EncodesStep line step
step_of line step found is = grind arith

fault_of : (line : List ℕ) (why : LineWhy) (found : StepOrFault line) → IsFoundFault why found → IsLineFault line why
fault_of line why found is = grind arith

pub encodes : (line : List ℕ) (step : Step) → IsFoundStep step (decoded_line line) → EncodesStep line step
encodes line step is = step_of line step (decoded_line line) is

pub is_faulty : (line : List ℕ) (why : LineWhy) → IsFoundFault why (decoded_line line) → IsLineFault line why
is_faulty line why is = fault_of line why (decoded_line line) is
