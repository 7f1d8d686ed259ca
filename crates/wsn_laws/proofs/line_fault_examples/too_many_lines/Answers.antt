use Rattle.std.proofs.Common.{[], inl, refl, arith}
use Rattle.wsn_rules.specs.Examples.{greatest}
use Rattle.wsn_laws.proofs.ComputedLineFaults.{first_of_many, takes_nothing}
use Rattle.wsn_laws.proofs.line_fault_examples.too_many_lines.Goals as goal

pub returns-clause-one_more : goal.returns-clause-one_more
returns-clause-one_more c given line many = first_of_many greatest given line (omega (arith, many))

pub returns-clause-the_last : goal.returns-clause-the_last
returns-clause-the_last c given many = takes_nothing greatest given [] (omega (arith, many)) (omega arith) (inl refl)
