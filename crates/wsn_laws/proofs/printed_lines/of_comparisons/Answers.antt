use Rattle.std.proofs.Common.{refl}
use Rattle.std.specs.Fmt.{digits}
use Rattle.wsn_laws.proofs.printed_lines.of_comparisons.Goals as goal

pub returns-clause-equal : goal.returns-clause-equal
unfolding digits
returns-clause-equal c = refl

pub returns-clause-at_once : goal.returns-clause-at_once
unfolding digits
returns-clause-at_once c = refl

pub returns-clause-later : goal.returns-clause-later
unfolding digits
returns-clause-later c = refl

pub returns-clause-first_cut : goal.returns-clause-first_cut
unfolding digits
returns-clause-first_cut c s = refl

pub returns-clause-second_cut : goal.returns-clause-second_cut
unfolding digits
returns-clause-second_cut c s = refl

pub returns-clause-first_refused : goal.returns-clause-first_refused
unfolding digits
returns-clause-first_refused c = refl

pub returns-clause-second_refused : goal.returns-clause-second_refused
unfolding digits
returns-clause-second_refused c = refl
