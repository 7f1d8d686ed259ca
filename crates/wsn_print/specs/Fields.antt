-- Fields of a verdict's line. Numbers are decimal; a field without a value is a dash.
use Rattle.std.specs.Prelude.{ℕ, Option, Some, None, List, ◌++◌, codes, decimal}
use Rattle.wsn_wire.specs.Refusal.{word_of, code_of}
use Rattle.wsn_rules.specs.declared.verdict.Refusal.{Refusal}

-- A number, such as the size of an open message or a close code; a dash if there is none.
abbrev pub number_text : Option ℕ → List ℕ
number_text None = codes "-"
number_text (Some n) = decimal n

-- A refusal: the offset of the offending byte, the reason, the close code.
abbrev pub refusal_text : Refusal → List ℕ
refusal_text refusal =
    codes "refused " ++ decimal refusal.offset ++ codes " " ++ word_of refusal.reason ++ codes " "
    ++ decimal (code_of refusal.reason)
