use Rattle.std.proofs.Common.{refl}
use Rattle.std.specs.Fmt.{digits}
use Rattle.wsn_laws.proofs.printed_lines.of_line_faults.Goals as goal

pub returns-clause-first : goal.returns-clause-first
unfolding digits
returns-clause-first c = refl

pub returns-clause-later : goal.returns-clause-later
unfolding digits
returns-clause-later c = refl

pub returns-clause-after_the_most : goal.returns-clause-after_the_most
unfolding digits
returns-clause-after_the_most c = refl
