-- Plan text, a line for each step of a plan: which text encodes which plan, the text that is written of a plan, and the
-- first fault of a text that encodes none.
use Rattle.std.specs.Prelude.{◌≡◌, ◌≢◌, ℕ, ◌+◌, ◌^◌, ◌<◌, Option, None, Some, List, [], ◌∷◌, ◌++◌, length, codes, decimal, IfSome, Result, Ok, Err, ⊤}
use Rattle.std.specs.List.{AllByRecursion, AllZip, flat_map}
use Rattle.hex.specs.Hex.{decode_of}
use Rattle.wsn_wire.specs.declared.length_encoding.Form.{Form}
use Rattle.wsn_rules.specs.declared.step.Step.{Step}
use Rattle.wsn_rules.specs.declared.step.Step.TheVariants as step
use Rattle.wsn_print.specs.HeadText.{key_text, form_text}
use Rattle.wsn_rules.specs.TextLines.{AreLines}
use Rattle.wsn_plan_text.specs.declared.plan_fault.LineWhy.{LineWhy, TheVariants.{BadForm, BadNumber, BadKey, BadLength}}
use Rattle.wsn_plan_text.specs.declared.plan_fault.PlanFault.{PlanFault}
use Rattle.wsn_plan_text.specs.declared.plan_fault.PlanFault.TheVariants as fault

-- ---- a line, without its LF

-- A number is decimal, without leading zeros, and fits 64 bits.
abbrev pub EncodesNumber : List ℕ → ℕ → Type 0
EncodesNumber text n = (n < 2 ^ 64) × (text ≡ decimal n)

-- A key is eight hexadecimal digits of either case; a dash is no key.
abbrev pub EncodesKey : List ℕ → Option (List ℕ) → Type 0
EncodesKey text None = text ≡ codes "-"
EncodesKey text (Some key) = (length text ≡ 8) × (decode_of text ≡ Ok key)

-- `piece N KEY`, `last KEY` or `control KEY`. A piece or a last may end with ` two` or ` eight`, for a length that is
-- encoded in more bytes than it needs.
abbrev pub EncodesStep : List ℕ → Step → Type 0
EncodesStep line (step.Piece len key form) = (number digits : List ℕ) × EncodesNumber number len × EncodesKey digits key
    × (line ≡ codes "piece " ++ number ++ codes " " ++ digits ++ form_text form)
EncodesStep line (step.Last key form) = (digits : List ℕ) × EncodesKey digits key
    × (line ≡ codes "last " ++ digits ++ form_text form)
EncodesStep line (step.Control key) = (digits : List ℕ) × EncodesKey digits key × (line ≡ codes "control " ++ digits)

-- ---- a text

-- Each line encodes the step at its index.
abbrev pub EncodesPlan : List ℕ → List Step → Type 0
EncodesPlan text plan = (lines : List (List ℕ)) × AreLines text lines × AllZip EncodesStep lines plan

-- ---- what is written: digits in lower case, and an LF at the end of each line

-- the line that is written of a step
abbrev pub step_line : Step → List ℕ
step_line (step.Piece len key form) =
    codes "piece " ++ decimal len ++ codes " " ++ key_text key ++ form_text form ++ codes "\n"
step_line (step.Last key form) = codes "last " ++ key_text key ++ form_text form ++ codes "\n"
step_line (step.Control key) = codes "control " ++ key_text key ++ codes "\n"

-- the text that is written of a plan
abbrev pub plan_text : List Step → List ℕ
plan_text plan = flat_map step_line plan

-- ---- what is wrong with a line

-- The text has no such byte.
abbrev pub HasNo : ℕ → List ℕ → Type 0
HasNo byte = AllByRecursion (λ other. other ≢ byte)

-- A field isn't empty, and has no space.
abbrev pub IsField : List ℕ → Type 0
IsField text = (text ≢ []) × HasNo 32 text

-- The fields of a line, by its first word. A piece and a last may have one more field after the key.
pub data Fields : Type 0 where
  OfPiece : List ℕ → List ℕ → Option (List ℕ) → Fields
  OfLast : List ℕ → Option (List ℕ) → Fields
  OfControl : List ℕ → Fields

-- a byte and the text after it; nothing without a text
abbrev pub preceded_by : ℕ → Option (List ℕ) → List ℕ
preceded_by byte None = []
preceded_by byte (Some text) = byte ∷ text

-- Single spaces separate the fields.
abbrev pub HasFields : List ℕ → Fields → Type 0
HasFields line (OfPiece number key form) = IsField number × IsField key × IfSome form IsField
    × (line ≡ codes "piece " ++ number ++ codes " " ++ key ++ preceded_by 32 form)
HasFields line (OfLast key form) =
    IsField key × IfSome form IsField × (line ≡ codes "last " ++ key ++ preceded_by 32 form)
HasFields line (OfControl key) = IsField key × (line ≡ codes "control " ++ key)

-- The field for a number encodes one, if there is such a field.
abbrev pub HasNumber : Fields → Type 0
HasNumber (OfPiece number key form) = (n : ℕ) × EncodesNumber number n
HasNumber (OfLast key form) = ⊤
HasNumber (OfControl key) = ⊤

-- the field for a key
abbrev pub key_field : Fields → List ℕ
key_field (OfPiece number key form) = key
key_field (OfLast key form) = key
key_field (OfControl key) = key

-- The field for a key encodes a key or none.
abbrev pub HasKey : Fields → Type 0
HasKey fields = (key : Option (List ℕ)) × EncodesKey (key_field fields) key

-- the field after the key, if there is one
abbrev pub form_field : Fields → Option (List ℕ)
form_field (OfPiece number key form) = form
form_field (OfLast key form) = form
form_field (OfControl key) = None

-- The field after the key encodes a form, or is missing.
abbrev pub HasForm : Fields → Type 0
HasForm fields = (form : Form) × (preceded_by 32 (form_field fields) ≡ form_text form)

-- The first fault of a line: it doesn't have the fields of a step, or this is the first field that is malformed.
abbrev pub IsLineFault : List ℕ → LineWhy → Type 0
IsLineFault line BadForm = (fields : Fields) → ¬ (HasFields line fields)
IsLineFault line BadNumber = (fields : Fields) × HasFields line fields × (¬ (HasNumber fields))
IsLineFault line BadKey = (fields : Fields) × HasFields line fields × HasNumber fields × (¬ (HasKey fields))
IsLineFault line BadLength =
    (fields : Fields) × HasFields line fields × HasNumber fields × HasKey fields × (¬ (HasForm fields))

-- ---- what is wrong with a text

-- The lines before this one, numbered from 1, encode steps, and this is its first fault.
abbrev pub IsFirstPlanFault : List ℕ → ℕ → LineWhy → Type 0
IsFirstPlanFault text number why =
    (before : List (List ℕ)) × (line : List ℕ) × (after : List (List ℕ)) × (plan : List Step)
    × AreLines text (before ++ line ∷ after) × AllZip EncodesStep before plan × IsLineFault line why
    × (number ≡ length before + 1)

-- The first line of the text encodes a step.
abbrev pub BeginsWithAStep : List ℕ → Type 0
BeginsWithAStep text =
    (line : List ℕ) × (after : List (List ℕ)) × (first : Step) × AreLines text (line ∷ after) × EncodesStep line first

-- The plan that a text encodes, or its first fault; or an allocation failed, for a step of the text.
abbrev pub IsReadPlan : List ℕ → Result (List Step) PlanFault → Type 0
IsReadPlan text (Ok plan) = EncodesPlan text plan
IsReadPlan text (Err (fault.Line number why)) = IsFirstPlanFault text number why
IsReadPlan text (Err fault.Memory) = BeginsWithAStep text
