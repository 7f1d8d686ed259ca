-- What a painter has taken, written and not yet written.
use Rattle.std.specs.Prelude.{◌≡◌, ℕ, Bool, true, false, Option, None, Some, List, [], ◌∷◌, ◌++◌, option_and_then}
use Rattle.std.specs.Io.KnownBytes.{append_known}
use Rattle.wsn_color.specs.Codes.{IsComplete, begun_after, colored_after, has_plain_ends, without_codes}
use Rattle.wsn_color.specs.PaintedText.{painted_from}
use Rattle.wsn_color.specs.declared.line.Line.{Line}

-- The bytes that the painter's writer holds, if they are known; the bytes that are to be written next, with codes; and
-- the bytes of the word that is being read, and how far its line has come.
pub record Painted : Type 0 where
  pub written : Option (List ℕ)
  pub queued : List ℕ
  pub word : List ℕ
  pub line : Line

-- the text with codes: what was written, if it is known, and what is to be written
abbrev pub text_of : Painted → Option (List ℕ)
text_of painted = append_known painted.written painted.queued

-- the text, if no code has begun before its end that isn't complete
abbrev pub if_complete : List ℕ → List ℕ → Option (List ℕ)
if_complete [] text = Some text
if_complete (byte ∷ begun) text = None

-- All that is written of what was given, if this text is given after it, and then all is flushed.
abbrev pub in_full : Painted → List ℕ → Option (List ℕ)
in_full painted text = append_known (text_of painted) (painted_from painted.line painted.word text)

-- what makes this text with codes and this word: the text without codes, and the word
abbrev pub given_by : Option (List ℕ) → List ℕ → Option (List ℕ)
given_by text word = option_and_then (λ known. if_complete (begun_after [] known) (without_codes known ++ word)) text

-- All that was given to a painter, where its text is known and each code in it is complete.
abbrev pub all_given : Painted → Option (List ℕ)
all_given painted = given_by (text_of painted) painted.word

-- Each code in the text is complete, no line end is coloured, and what comes next is coloured or not.
pub record IsPlainText (colored : Bool) (text : List ℕ) : Type 0 where
  pub complete : IsComplete text
  pub ends : has_plain_ends false [] text ≡ true
  pub next : colored_after false [] text ≡ colored

-- The text is known, and so it is.
abbrev pub IsKnownPlain : Bool → Option (List ℕ) → Type 0
IsKnownPlain colored None = ⊥
IsKnownPlain colored (Some text) = IsPlainText colored text

-- So is a painter's text.
abbrev pub HasPlainEnds : Painted → Type 0
HasPlainEnds painted = IsKnownPlain painted.line.is_toned (text_of painted)

-- What is queued has grown by complete codes and by as many of the word and the bytes as aren't held now. No line end is
-- coloured.
pub record Paints (colored : Bool) (queued word bytes : List ℕ) (colored' : Bool) (queued' word' : List ℕ) : Type 0 where
  pub added : List ℕ
  pub grown : queued' ≡ queued ++ added
  pub complete : IsComplete added
  pub same : without_codes added ++ word' ≡ word ++ bytes
  pub ends : has_plain_ends colored [] added ≡ true
  pub next : colored_after colored [] added ≡ colored'
