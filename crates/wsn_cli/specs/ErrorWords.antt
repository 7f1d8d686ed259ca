-- The words of a command line as an error shows them.
use Rattle.std.specs.Prelude.{◌^◌, ℕ, ◌==◌, ◌&&◌, nat_lt, Bool, false, if◌then◌else◌, List, [], ◌∷◌, ◌++◌, take, drop, flat_map, codes}
use Rattle.std.specs.Char.{is_ascii_digit, is_control}
use Rattle.std.specs.List.{list_all}
use Rattle.std.specs.Str.{chars}
use Rattle.std.specs.Str.Parse.{digits_value}
use Rattle.hex.specs.Hex.{encode_lower}
use Rattle.wsn_print.specs.EscapedText.{shown_character}
use Rattle.wsn_cli.specs.Options.{has_word}

-- A character: a control character as `\x` and its number in two hexadecimal digits, another hidden one as in a quoted
-- text.
abbrev pub escaped_character : ℕ → List ℕ
escaped_character c = if is_control c then codes "\\x" ++ encode_lower (c ∷ []) else shown_character c

-- `..` in place of the characters that are left out.
abbrev pub left_out : List ℕ → List ℕ
left_out [] = []
left_out (c ∷ cs) = codes ".."

-- The first characters, at most this number, and `..` in place of the others.
abbrev pub escaped_characters : ℕ → List ℕ → List ℕ
escaped_characters most cs = flat_map escaped_character (take most cs) ++ left_out (drop most cs)

-- A word, of which at most this number of characters is shown.
abbrev pub escaped : ℕ → List ℕ → List ℕ
escaped most word = escaped_characters most (chars word)

-- The options that take a number.
abbrev pub number_options : List (List ℕ)
number_options = codes "--limit" ∷ codes "--frames" ∷ codes "--size" ∷ codes "--view" ∷ codes "--at" ∷ []

-- Digits alone, of a number from 1 that fits 128 bits.
abbrev pub is_positive : List ℕ → Bool
is_positive digits =
    list_all is_ascii_digit digits && nat_lt 0 (digits_value 10 digits) && nat_lt (digits_value 10 digits) (2 ^ 128)

-- `-` and such a number.
abbrev pub is_negative : List ℕ → Bool
is_negative [] = false
is_negative (sign ∷ digits) = sign == 45 && is_positive digits

-- Each word by at most 80 characters. A negative number after an option that takes a number is joined to it by `=`.
abbrev pub shown_words : List (List ℕ) → List (List ℕ)
shown_words [] = []
shown_words (word ∷ []) = escaped 80 word ∷ []
shown_words (word ∷ next ∷ words) =
    if has_word number_options word && is_negative next
    then (escaped 80 word ++ (codes "=" ++ escaped 80 next)) ∷ shown_words words
    else escaped 80 word ∷ shown_words (next ∷ words)
