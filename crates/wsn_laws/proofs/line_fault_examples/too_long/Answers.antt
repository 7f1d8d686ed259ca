use Rattle.std.proofs.Common.{ℕ, List, [], ◌∷◌, arith}
use Rattle.wsn_rules.specs.Examples.{greatest}
use Rattle.wsn_rules.specs.Entries.{GivesEntry, without_cr}
use Rattle.wsn_rules.specs.Entries.Entry.{Nothing}
use Rattle.wsn_laws.proofs.ComputedLineFaults.{first_of_long, takes_nothing}
use Rattle.wsn_laws.proofs.line_fault_examples.too_long.Goals as goal

-- a comment is one without its CR, too
still_a_comment : (comment : List ℕ) → GivesEntry (without_cr (35 ∷ comment)) Nothing
still_a_comment comment = grind arith

pub returns-clause-one_more : goal.returns-clause-one_more
returns-clause-one_more c line long = first_of_long greatest [] line (omega arith) (omega (arith, long))

pub returns-clause-the_longest : goal.returns-clause-the_longest
returns-clause-the_longest c comment long =
    takes_nothing greatest [] (35 ∷ comment) (omega arith) (omega (arith, long)) (still_a_comment comment)
