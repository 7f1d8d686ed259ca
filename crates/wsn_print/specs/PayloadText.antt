-- The lines of `payload` where no event begins at an offset, each with its LF.
use Rattle.std.specs.Prelude.{ℕ, List, ◌++◌, codes, decimal, nat_eq, if◌then◌else◌}
use Rattle.wsn_wire.specs.declared.opcode.Op.{Op}
use Rattle.wsn_rules.specs.declared.verdict.Verdict.{Verdict}
use Rattle.wsn_print.specs.HeadText.{op_word}
use Rattle.wsn_print.specs.VerdictText.{verdict_line}

-- The offset is in a frame of the event with this opcode, which begins elsewhere.
abbrev pub inside_line : ℕ → Op → ℕ → List ℕ
inside_line at op start =
    codes "nothing begins at " ++ decimal at ++ codes "; it is in the " ++ op_word op ++ codes " at " ++ decimal start
    ++ codes "\n"

-- What is said of the head in which the offset is: that it begins there, or where it begins.
abbrev pub its_head : ℕ → ℕ → List ℕ
its_head at head =
    if nat_eq at head then codes " but a head" else codes "; it is in the head at " ++ decimal head

-- The offset is in the head that begins at the offset `head` and isn't complete, and the stream has this verdict.
abbrev pub begun_head_line : ℕ → ℕ → Verdict → List ℕ
begun_head_line at head verdict =
    codes "nothing begins at " ++ decimal at ++ its_head at head ++ codes ": " ++ verdict_line verdict

-- All that came ends before the offset, or a Close does, and the stream has this verdict.
abbrev pub nothing_line : ℕ → Verdict → List ℕ
nothing_line at verdict = codes "nothing begins at " ++ decimal at ++ codes ": " ++ verdict_line verdict
