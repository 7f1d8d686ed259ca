-- Which word of a line begins which tone, how far the tone goes, and how it looks.
use Rattle.std.specs.Prelude.{ℕ, ◌==◌, nat_lt, ◌||◌, Bool, true, false, Option, None, Some, List, [], ◌∷◌, ◌++◌, codes, if◌then◌else◌}
use Rattle.std.specs.Str.{bytes_eq}
use Rattle.wsn_color.specs.declared.layout.Layout.{Layout, TheVariants.{Answer, People, Table, Explanation}}
use Rattle.wsn_color.specs.declared.opening.Opening.{Opening}
use Rattle.wsn_color.specs.declared.opening.Opening.TheVariants as openings
use Rattle.wsn_color.specs.declared.tone.Tone.{Tone, TheVariants.{Client, Server, Alarm, Warning, Minor, Label}}

-- ---- how tones look

-- A code with these parameters.
abbrev pub code_with : List ℕ → List ℕ
code_with parameters = 27 ∷ 91 ∷ parameters ++ 109 ∷ []

-- The code with which a tone begins: 38;5;N is colour N of 256, and 1 is bold.
abbrev pub code_of : Tone → List ℕ
code_of Client = code_with (codes "38;5;31")
code_of Server = code_with (codes "38;5;165")
code_of Alarm = code_with (codes "1;38;5;196")
code_of Warning = code_with (codes "38;5;166")
code_of Minor = code_with (codes "38;5;244")
code_of Label = code_with (codes "1")

-- The code that ends all tones.
abbrev pub end_code : List ℕ
end_code = code_with (codes "0")

-- ---- the lines of an answer

-- whether a word begins with `#`
abbrev pub begins_comment : List ℕ → Bool
begins_comment [] = false
begins_comment (byte ∷ word) = byte == 35

-- What a line is about, by its first word.
abbrev pub opening_of : List ℕ → Opening
opening_of word =
    if begins_comment word then openings.Comment
    else if bytes_eq word (codes "C") || bytes_eq word (codes "client") || bytes_eq word (codes "client-sees") then openings.Client
    else if bytes_eq word (codes "S") || bytes_eq word (codes "server") || bytes_eq word (codes "server-sees") then openings.Server
    else if bytes_eq word (codes "refused") || bytes_eq word (codes "bad") then openings.Refusal
    else if bytes_eq word (codes "cut") then openings.Cut
    else if bytes_eq word (codes "outcome") then openings.Outcome
    else openings.Other

-- The tone with which the line begins.
abbrev pub opening_tone : Opening → Option Tone
opening_tone openings.Client = Some Client
opening_tone openings.Server = Some Server
opening_tone openings.Refusal = Some Alarm
opening_tone openings.Cut = Some Warning
opening_tone openings.Comment = Some Minor
opening_tone openings.Outcome = None
opening_tone openings.Other = None

-- The tone of a connection's outcome.
abbrev pub outcome_tone : List ℕ → Option Tone
outcome_tone word =
    if bytes_eq word (codes "failed") then Some Alarm
    else if bytes_eq word (codes "abnormal") then Some Warning
    else None

-- The tone that begins with a word about what an endpoint sent.
abbrev pub sent_tone : List ℕ → Option Tone
sent_tone word =
    if bytes_eq word (codes "refused") || bytes_eq word (codes "bad-character") then Some Alarm
    else if bytes_eq word (codes "cut") || bytes_eq word (codes "unfinished") then Some Warning
    else if bytes_eq word (codes "end") then Some Minor
    else None

-- The tone that begins with a later word of the line.
abbrev pub later_tone : Opening → List ℕ → Option Tone
later_tone openings.Client word = sent_tone word
later_tone openings.Server word = sent_tone word
later_tone openings.Outcome word = outcome_tone word
later_tone opening word = None

-- ---- all lines

-- The tone of a name before a colon.
abbrev pub name_tone : List ℕ → Option Tone
name_tone word =
    if bytes_eq word (codes "Usual causes") || bytes_eq word (codes "Next") then Some Label
    else if bytes_eq word (codes "hint") then Some Warning
    else None

-- The tone that begins with a word, of which there are `place` before it in its line.
abbrev pub tone_of : Layout → Opening → ℕ → List ℕ → Option Tone
tone_of Answer opening place word = if place == 0 then opening_tone (opening_of word) else later_tone opening word
tone_of People opening place word = if place == 0 then opening_tone (opening_of word) else later_tone opening word
tone_of Table opening place word = outcome_tone word
tone_of Explanation opening place word = name_tone word

-- Whether a word with this many before it may begin a tone: of an answer the first four, up to KIND after SIDE, TIME and
-- OFFSET; in columns for people the first five, since an arrow follows SIDE; of a table the second; of an explanation the
-- first.
abbrev pub may_begin : Layout → ℕ → Bool
may_begin Answer place = nat_lt place 4
may_begin People place = nat_lt place 5
may_begin Table place = place == 1
may_begin Explanation place = place == 0

-- The byte between words.
abbrev pub separator : Layout → ℕ
separator Answer = 32
separator People = 32
separator Table = 9
separator Explanation = 58

-- Whether an empty word counts: columns are filled with spaces.
abbrev pub counts_empty : Layout → Bool
counts_empty People = false
counts_empty layout = true

-- whether a tone goes on to the end of its line, and not of its word
abbrev pub is_of_line : Layout → Bool
is_of_line Answer = true
is_of_line People = true
is_of_line layout = false
