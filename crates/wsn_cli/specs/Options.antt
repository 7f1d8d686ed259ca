-- What options ask for, by the texts of their values.
use Rattle.std.specs.Prelude.{◌≡◌, ◌≢◌, ◌⊎◌, ℕ, Bool, true, false, Option, None, Some, option_map, List, [], codes}
use Rattle.std.specs.Char.{is_ascii_digit}
use Rattle.std.specs.List.{list_all, list_any}
use Rattle.std.specs.Str.{bytes_eq}
use Rattle.std.specs.Str.Parse.{digits_value, without_leading_plus}
use Rattle.clap.specs.Words.{first_value, raw_values}
use Rattle.clap.specs.declared.parser.matches.Found.{Found}
use Rattle.clap.specs.declared.parser.matches.MatchedArg.{MatchedArg}
use Rattle.wsn_rules.specs.declared.without.Without.{Without}

-- the number that a text of decimal digits encodes
abbrev pub number_in : List ℕ → ℕ
number_in text = digits_value 10 (without_leading_plus text)

-- The number is that of the option's value, or the default without the option.
abbrev pub IsAsked : Option (List ℕ) → ℕ → ℕ → Type 0
IsAsked None default n = n ≡ default
IsAsked (Some text) default n = n ≡ number_in text

-- The maximum is that of the option's value, and there is none without the option.
abbrev pub IsAskedMaximum : Option (List ℕ) → Option ℕ → Type 0
IsAskedMaximum None most = most ≡ None
IsAskedMaximum (Some text) most = most ≡ Some (number_in text)

-- The value is digits alone, at least one; or there is none.
abbrev pub IsInDigits : Option (List ℕ) → Type 0
IsInDigits None = Unit {0}
IsInDigits (Some text) = (text ≢ []) × (list_all is_ascii_digit text ≡ true)

-- So is the value of a command's --view; or it is the `all` of `show`.
abbrev pub IsViewText : List ℕ → Option (List ℕ) → Type 0
IsViewText name value = ((name ≡ codes "show") × (value ≡ Some (codes "all"))) ⊎ IsInDigits value

-- The values of all options of the command with this name that take a number.
abbrev pub AreInDigits : List ℕ → Found → Type 0
AreInDigits name found =
    IsInDigits (first_value found (codes "limit")) × IsInDigits (first_value found (codes "frames"))
    × IsInDigits (first_value found (codes "size")) × IsViewText name (first_value found (codes "view"))
    × IsInDigits (first_value found (codes "at"))

-- the words that an option lists, such as ping,pong
abbrev pub words_of : Option MatchedArg → Option (List (List ℕ))
words_of matched = option_map raw_values matched

-- whether this word is one of the words
abbrev pub has_word : List (List ℕ) → List ℕ → Bool
has_word words word = list_any (λ it. bytes_eq it word) words

-- A comparison leaves out exactly the kinds that the option lists; none without it.
abbrev pub AreLeftOut : Option (List (List ℕ)) → Without → Type 0
AreLeftOut None without = without ≡ record { ping = false; pong = false; close = false }
AreLeftOut (Some kinds) without = without ≡ record {
  ping = has_word kinds (codes "ping");
  pong = has_word kinds (codes "pong");
  close = has_word kinds (codes "close");
}
