-- Which first bytes no line of a capture has.
use Rattle.std.proofs.Common.{ℕ, ◌≤◌, List, arith}
use Rattle.wsn_hint.specs.Hints.{BeginsBlanks, BeginsNoLine, BeginsSmall, MayBeginLine}

-- No line begins with a small letter.
no_small_letter : (byte next : ℕ) → 99 ≤ byte → MayBeginLine byte next → ⊥
no_small_letter byte next small fact = grind arith

pub small_begins_no_line : (bytes : List ℕ) → BeginsSmall bytes → BeginsNoLine bytes
small_begins_no_line bytes fact = grind (arith, no_small_letter)

pub no_line_has_no_blanks : (bytes : List ℕ) → BeginsNoLine bytes → BeginsBlanks bytes → ⊥
no_line_has_no_blanks bytes no_line blanks = grind arith
