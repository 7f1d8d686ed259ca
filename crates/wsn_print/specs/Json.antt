-- The parts of JSON objects: values, and members after other members, without spaces. RFC 8259 sections 3 to 7.
use Rattle.std.specs.Prelude.{ℕ, Bool, true, false, Option, None, Some, List, ◌++◌, codes, decimal}

-- ---- values

-- A string of characters that need no escape, such as a word.
abbrev pub string_of : List ℕ → List ℕ
string_of word = codes "\"" ++ word ++ codes "\""

-- A number; null if there is none.
abbrev pub number_or_null : Option ℕ → List ℕ
number_or_null None = codes "null"
number_or_null (Some n) = decimal n

-- Whether something holds.
abbrev pub boolean : Bool → List ℕ
boolean true = codes "true"
boolean false = codes "false"

-- ---- members

-- A member after another one: a comma, the key, a colon and the value.
abbrev pub field : List ℕ → List ℕ → List ℕ
field key value = codes ",\"" ++ key ++ codes "\":" ++ value

-- A member whose value is a word.
abbrev pub string_field : List ℕ → List ℕ → List ℕ
string_field key word = field key (string_of word)

-- A member whose value is a number.
abbrev pub number_field : List ℕ → ℕ → List ℕ
number_field key n = field key (decimal n)

-- A member whose value is a number or null.
abbrev pub number_or_null_field : List ℕ → Option ℕ → List ℕ
number_or_null_field key n = field key (number_or_null n)
