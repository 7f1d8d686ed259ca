-- A text in colours: what is written of a text that is given to a painter, whatever pieces it comes in.
use Rattle.std.specs.Prelude.{◌≡◌, ℕ, ◌+◌, ◌==◌, nat_lt, ◌&&◌, ◌||◌, Bool, true, false, not, Option, None, Some, List, [], ◌∷◌, ◌++◌, length, if◌then◌else◌}
use Rattle.wsn_color.specs.Tones.{code_of, counts_empty, end_code, is_of_line, may_begin, opening_of, separator, tone_of}
use Rattle.wsn_color.specs.declared.layout.Layout.{Layout}
use Rattle.wsn_color.specs.declared.line.Line.{Line}
use Rattle.wsn_color.specs.declared.opening.Opening.TheVariants.{Other}
use Rattle.wsn_color.specs.declared.tone.Tone.{Tone}

-- A line of which no byte has come.
abbrev pub new_line : Layout → Line
new_line layout = record { layout = layout; opening = Other; place = 0; is_decided = false; is_toned = false }

-- Whether the word that is being read may begin a tone.
abbrev pub is_open : Line → Bool
is_open line = not line.is_decided && may_begin line.layout line.place

-- Whether a tone is decided by this word: none is by an empty one.
abbrev pub decides : Line → List ℕ → Bool
decides line word = not (length word == 0) && is_open line

-- The tone that begins with this word.
abbrev pub begun_tone : Line → List ℕ → Option Tone
begun_tone line word = if decides line word then tone_of line.layout line.opening line.place word else None

-- whether what comes after a word is coloured, by whether what comes before it is, and the tone that begins with it
abbrev pub colored_by : Layout → Bool → Option Tone → Bool
colored_by layout colored None = colored
colored_by layout colored (Some tone) = is_of_line layout

-- The line after this word.
abbrev pub with_word : Line → List ℕ → Line
with_word line word = if decides line word
    then record line {
      opening = if line.place == 0 then opening_of word else line.opening;
      is_decided = true;
      is_toned = colored_by line.layout line.is_toned (begun_tone line word);
    }
    else line

-- The number of words before the next one. Of numbers from 5 on only that they are is known.
abbrev pub next_place : Line → ℕ
next_place line =
    if (counts_empty line.layout || line.is_decided) && nat_lt line.place 5 then line.place + 1 else line.place

-- The line after a byte that isn't held: another word comes after a separator.
abbrev pub with_byte : Line → ℕ → Line
with_byte line byte = if byte == separator line.layout
    then record line { place = next_place line; is_decided = false }
    else line

-- The line without its tone.
abbrev pub without_tone : Line → Line
without_tone line = record line { is_toned = false }

-- A word in its tone, which ends after it if it isn't one of lines.
abbrev pub toned_word : Layout → Option Tone → List ℕ → List ℕ
toned_word layout None word = word
toned_word layout (Some tone) word = code_of tone ++ word ++ (if is_of_line layout then [] else end_code)

-- What is written of a word.
abbrev pub painted_word : Line → List ℕ → List ℕ
painted_word line word = toned_word line.layout (begun_tone line word) word

-- What is written where the word and the line's tone end.
abbrev pub painted_end : Line → List ℕ → List ℕ
painted_end line word = painted_word line word ++ (if (with_word line word).is_toned then end_code else [])

-- Whether the byte belongs to the word that is being read: of a long word the first 31 bytes decide.
abbrev pub is_held : Line → List ℕ → ℕ → Bool
is_held line word byte = nat_lt (length word) 31 && is_open line && not (byte == separator line.layout)

-- What is written of the word that is being read and of a text after it.
abbrev pub painted_from : Line → List ℕ → List ℕ → List ℕ
painted_from line word [] = painted_end line word
painted_from line word (byte ∷ text) =
    if byte == 10 then painted_end line word ++ byte ∷ painted_from (new_line line.layout) [] text
    else if is_held line word byte then painted_from line (word ++ byte ∷ []) text
    else painted_word line word ++ byte ∷ painted_from (with_byte (with_word line word) byte) [] text

-- A text in colours.
abbrev pub painted : Layout → List ℕ → List ℕ
painted layout text = painted_from (new_line layout) [] text

-- What has been written of a text, and what will be once any other comes after it, are together the painted text.
abbrev pub Continues : List ℕ → Line → List ℕ → List ℕ → List ℕ → Line → List ℕ → Type 0
Continues queued line word bytes queued' line' word' = (rest : List ℕ) →
    queued ++ painted_from line word (bytes ++ rest) ≡ queued' ++ painted_from line' word' rest
