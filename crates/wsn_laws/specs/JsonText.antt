-- Which bytes are JSON, and of which value: the grammar of RFC 8259, section by section. Left out is what no object that
-- is printed has: arrays, spaces between the parts of a text, and escaped surrogates that are no pair. So what is JSON
-- here is JSON by the RFC, but not the other way round.
use Rattle.std.specs.Prelude.{◌≡◌, ◌≢◌, ℕ, ◌≤◌, ◌⊎◌, List, [], ◌∷◌, ◌++◌, codes, ⊤}
use Rattle.std.specs.Char.{IsScalar}
use Rattle.std.specs.List.{AllByRecursion}
use Rattle.wsn_shown_text.specs.QuotedTexts.{IsJsonCharacter}
use Rattle.wsn_rules.specs.ShownCapture.{IsDigit}

-- ---- parts of a text

-- The bytes are these.
abbrev pub Are : List ℕ → List ℕ → Type 0
Are these bytes = bytes ≡ these

-- The bytes are of one kind and then of another.
infixr 5 ◌and_then◌
abbrev pub ◌and_then◌ : (List ℕ → Type 0) → (List ℕ → Type 0) → List ℕ → Type 0
IsFirst and_then IsSecond = λ bytes.
    (first : List ℕ) × (second : List ℕ) × (bytes ≡ first ++ second) × IsFirst first × IsSecond second

-- The bytes are of one kind or of another.
infixr 6 ◌or_else◌
abbrev pub ◌or_else◌ : (List ℕ → Type 0) → (List ℕ → Type 0) → List ℕ → Type 0
IsOne or_else IsOther = λ bytes. IsOne bytes ⊎ IsOther bytes

-- The bytes are of this kind, or there are none.
abbrev pub Optional : (List ℕ → Type 0) → List ℕ → Type 0
Optional IsPart = Are [] or_else IsPart

-- ---- numbers: section 6

-- One digit or more.
abbrev pub AreDigits : List ℕ → Type 0
AreDigits bytes = (bytes ≢ []) × AllByRecursion IsDigit bytes

-- Digits, the first of which isn't 0.
abbrev pub StartAboveZero : List ℕ → Type 0
StartAboveZero bytes =
    (first : ℕ) × (others : List ℕ) × (bytes ≡ first ∷ others) × (49 ≤ first) × (first ≤ 57)
    × AllByRecursion IsDigit others

-- The part of a number before its fraction and its exponent: 0, or digits the first of which isn't 0.
abbrev pub IsInteger : List ℕ → Type 0
IsInteger = Are (codes "0") or_else StartAboveZero

-- A fraction.
abbrev pub IsFraction : List ℕ → Type 0
IsFraction = Are (codes ".") and_then AreDigits

-- An exponent.
abbrev pub IsExponent : List ℕ → Type 0
IsExponent =
    (Are (codes "e") or_else Are (codes "E")) and_then Optional (Are (codes "+") or_else Are (codes "-"))
    and_then AreDigits

-- A number: a minus or none, an integer, a fraction or none, an exponent or none.
abbrev pub IsNumber : List ℕ → Type 0
IsNumber = Optional (Are (codes "-")) and_then IsInteger and_then Optional IsFraction and_then Optional IsExponent

-- ---- strings: section 7

-- Characters, one after another: each as it is, escaped, or as two surrogates.
abbrev pub AreCharacters : List ℕ → List ℕ → Type 0
AreCharacters [] = Are []
AreCharacters (c ∷ cs) = IsJsonCharacter c and_then AreCharacters cs

-- A string of these characters, between quotation marks. Each is one of Unicode, so none is a surrogate.
abbrev pub IsString : List ℕ → List ℕ → Type 0
IsString characters = λ bytes.
    AllByRecursion IsScalar characters
    × (Are (codes "\"") and_then AreCharacters characters and_then Are (codes "\"")) bytes

-- ---- values and objects: sections 3 and 4

mutual
  -- A value: a literal, a number as it is written, a string of characters, or an object.
  pub data Value : Type 0 where
    Null : Value
    True : Value
    False : Value
    Number : List ℕ → Value
    String : List ℕ → Value
    Object : Members → Value

  -- The members of an object, in order: each has a name, of characters, and a value.
  pub data Members : Type 0 where
    End : Members
    Member : List ℕ → Value → Members → Members

abbrev mutual
  -- The bytes are a text of the value.
  pub IsValue : Value → List ℕ → Type 0
  IsValue Null = Are (codes "null")
  IsValue True = Are (codes "true")
  IsValue False = Are (codes "false")
  IsValue (Number digits) = λ bytes. (bytes ≡ digits) × IsNumber digits
  IsValue (String characters) = IsString characters
  IsValue (Object End) = Are (codes "{}")
  IsValue (Object (Member name value others)) =
      Are (codes "{") and_then IsString name and_then Are (codes ":") and_then IsValue value
      and_then AreOthers others and_then Are (codes "}")

  -- The bytes are the members after the first one of an object, each with a comma in front.
  pub AreOthers : Members → List ℕ → Type 0
  AreOthers End = Are []
  AreOthers (Member name value others) =
      Are (codes ",") and_then IsString name and_then Are (codes ":") and_then IsValue value
      and_then AreOthers others

-- ---- names: section 4

-- The name is none of these members' names.
abbrev pub IsNew : List ℕ → Members → Type 0
IsNew name End = ⊤
IsNew name (Member other value others) = (name ≢ other) × IsNew name others

abbrev mutual
  -- In each object of the value, the members' names are distinct.
  pub HasDistinctNames : Value → Type 0
  HasDistinctNames Null = ⊤
  HasDistinctNames True = ⊤
  HasDistinctNames False = ⊤
  HasDistinctNames (Number digits) = ⊤
  HasDistinctNames (String characters) = ⊤
  HasDistinctNames (Object members) = AreDistinct members

  -- So are the names of these members, and those in their values.
  pub AreDistinct : Members → Type 0
  AreDistinct End = ⊤
  AreDistinct (Member name value others) = IsNew name others × HasDistinctNames value × AreDistinct others

-- ---- a line

-- The line is a JSON text of the value, and an LF.
abbrev pub IsJsonLine : Value → List ℕ → Type 0
IsJsonLine value = IsValue value and_then Are (codes "\n")

-- The line is one JSON object and an LF; in the object, and in each object in it, the names are distinct.
abbrev pub IsObjectLine : List ℕ → Type 0
IsObjectLine line = (members : Members) × IsJsonLine (Object members) line × HasDistinctNames (Object members)
