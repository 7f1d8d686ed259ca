-- A text split at the first byte of a value, and the fields and lines that this gives.
use Rattle.std.specs.Prelude.{◌≡◌, ◌≢◌, ℕ, ◌⊎◌, Option, List, [], ◌∷◌, ◌++◌, codes, IfSome}
use Rattle.wsn_plan_text.specs.PlanText.{HasNo, preceded_by, IsField, Fields, OfPiece, OfLast, OfControl}
use Rattle.std.specs.Option.{option_copied}
use Rattle.wsn_plan_text.specs.declared.line_fields.Fields as declared
use Rattle.wsn_plan_text.specs.declared.line_fields.Fields.TheVariants.{Piece, Last, Control}

-- the text before the first such byte, and the text after it; without such a byte, the whole text
abbrev pub IsSplit : ℕ → List ℕ → List ℕ → Option (List ℕ) → Type 0
IsSplit byte text first rest = HasNo byte first × (text ≡ first ++ preceded_by byte rest)

-- a line, and the text after its LF; the last LF may be missing
abbrev pub IsNextLine : List ℕ → List ℕ → List ℕ → Type 0
IsNextLine text line rest = HasNo 10 line × ((text ≡ line ++ 10 ∷ rest) ⊎ ((line ≢ []) × (text ≡ line) × (rest ≡ [])))

-- a key, and at most one more field
abbrev pub AreKeyAndForm : List ℕ → List ℕ → Option (List ℕ) → Type 0
AreKeyAndForm text key form = IsField key × IfSome form IsField × (text ≡ key ++ preceded_by 32 form)

-- ---- a line's first word, and the text after it

-- the first word of a line with these fields
abbrev pub first_word : Fields → List ℕ
first_word (OfPiece number key form) = codes "piece"
first_word (OfLast key form) = codes "last"
first_word (OfControl key) = codes "control"

-- the text after the first word and a space
abbrev pub rest_of : Fields → List ℕ
rest_of (OfPiece number key form) = number ++ 32 ∷ (key ++ preceded_by 32 form)
rest_of (OfLast key form) = key ++ preceded_by 32 form
rest_of (OfControl key) = key

-- Each of them is a field.
abbrev pub AreFields : Fields → Type 0
AreFields (OfPiece number key form) = IsField number × IsField key × IfSome form IsField
AreFields (OfLast key form) = IsField key × IfSome form IsField
AreFields (OfControl key) = IsField key

-- A line of this word and this text after it has these fields.
abbrev pub AreFieldsAfter : List ℕ → List ℕ → Fields → Type 0
AreFieldsAfter word rest fields = AreFields fields × (first_word fields ≡ word) × (rest_of fields ≡ rest)

-- the fields that the code's fields mean
abbrev pub seen : declared.Fields → Fields
seen (Piece number key form) = OfPiece number.now key.now (option_copied form)
seen (Last key form) = OfLast key.now (option_copied form)
seen (Control key) = OfControl key.now
