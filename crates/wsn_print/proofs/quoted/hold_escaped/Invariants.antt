use Rattle.std.proofs.Common.{◌≡◌, ◌≤◌, ◌-◌, ◌++◌, List, ℕ, drop, length}
use Rattle.wsn_print.specs.Runs.{escaped}
use Rattle.wsn_print.proofs.Gathered.{IsGathered}
use Rattle.wsn_print.proofs.quoted.hold_escaped.Given as goal

-- The text so far is written, or held after what is.
abbrev pub invariant-loop-at : goal.invariant-loop-at
invariant-loop-at g l = (done : List ℕ) × IsGathered l.fn.to l.to done l.held
    × (l.fn.held ++ escaped l.escapes l.text ≡ done ++ escaped l.escapes (drop l.at l.text)) × (l.at ≤ length l.text)

abbrev pub decreases-loop-at : goal.decreases-loop-at
decreases-loop-at g l = length l.text - l.at
