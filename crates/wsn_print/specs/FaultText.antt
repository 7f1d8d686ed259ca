-- The lines of faults, each with its LF: of a plan that doesn't fit, of a stream without a plan, of a line of a text.
use Rattle.std.specs.Prelude.{ℕ, List, ◌++◌, codes, decimal}
use Rattle.wsn_rules.specs.declared.why.Why.{Why}
use Rattle.wsn_rules.specs.Fault.{why_word}
use Rattle.wsn_io.specs.declared.stop.Stop.{Stop}
use Rattle.wsn_io.specs.Stops.{stop_word}

-- The words of the stop.
abbrev pub stop_line : Stop → List ℕ
stop_line stopped = stop_word stopped ++ codes "\n"

-- A recut's fault, where the plan doesn't fit: the number of the faulty step, from 0, and the reason.
abbrev pub recut_fault_line : ℕ → Why → List ℕ
recut_fault_line step why = codes "fault " ++ decimal step ++ codes " " ++ why_word why ++ codes "\n"

-- There is no plan: the Close interrupts a message.
abbrev pub unfinished_line : List ℕ
unfinished_line = codes "unfinished\n"

-- A faulty line of a text: its number, from 1, and the word of its fault.
abbrev pub line_fault_line : ℕ → List ℕ → List ℕ
line_fault_line number word = codes "line " ++ decimal number ++ codes ": " ++ word ++ codes "\n"
