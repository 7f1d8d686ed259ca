-- The inputs that a command line names.
use Rattle.std.specs.Prelude.{◌≡◌, ◌⊎◌, ◌<◌, ℕ, ◌+◌, length, if◌then◌else◌, Option, None, Some, IsSome, List, [], ◌∷◌, String, codes, string_bytes}
use Rattle.std.specs.Str.{bytes_eq}

-- The input that a word names: standard input without a word and for `-`, and for any other word the file of that name.
abbrev pub IsInputNamed : {A : Type 0} → Option (List ℕ) → Option (String A) → Type 0
IsInputNamed None input = input ≡ None
IsInputNamed (Some word) None = word ≡ codes "-"
IsInputNamed (Some word) (Some file) = (string_bytes file ≡ word) × ¬ (word ≡ codes "-")

-- The name of an input: of a file, or `-` for standard input.
abbrev pub input_name : {A : Type 0} → Option (String A) → List ℕ
input_name None = codes "-"
input_name (Some file) = string_bytes file

-- At most one of the two inputs is standard input.
abbrev pub AreApart : {A : Type 0} → Option (String A) → Option (String A) → Type 0
AreApart first second = IsSome first ⊎ IsSome second

-- The number of the words that name standard input.
abbrev pub dashes : List (List ℕ) → ℕ
dashes [] = 0
dashes (word ∷ words) = (if bytes_eq word (codes "-") then 1 else 0) + dashes words

-- The names are the words, or `-` without words.
abbrev pub AreInputsNamed : Option (List (List ℕ)) → List (List ℕ) → Type 0
AreInputsNamed None names = names ≡ codes "-" ∷ []
AreInputsNamed (Some words) names = names ≡ words

-- There is more than one word.
abbrev pub AreSeveral : Option (List (List ℕ)) → Type 0
AreSeveral None = ⊥
AreSeveral (Some words) = 1 < length words
