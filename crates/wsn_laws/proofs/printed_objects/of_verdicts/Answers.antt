use Rattle.std.proofs.Common.{refl}
use Rattle.std.specs.Fmt.{digits}
use Rattle.wsn_laws.proofs.printed_objects.of_verdicts.Goals as goal

pub returns-clause-accepted : goal.returns-clause-accepted
unfolding digits
returns-clause-accepted c = refl

pub returns-clause-with_a_close : goal.returns-clause-with_a_close
unfolding digits
returns-clause-with_a_close c = refl

pub returns-clause-with_an_empty_close : goal.returns-clause-with_an_empty_close
unfolding digits
returns-clause-with_an_empty_close c = refl

pub returns-clause-cut : goal.returns-clause-cut
unfolding digits
returns-clause-cut c = refl

pub returns-clause-refused : goal.returns-clause-refused
unfolding digits
returns-clause-refused c = refl
