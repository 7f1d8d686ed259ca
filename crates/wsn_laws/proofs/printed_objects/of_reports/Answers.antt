use Rattle.std.proofs.Common.{refl}
use Rattle.std.specs.Fmt.{digits}
use Rattle.wsn_laws.proofs.printed_objects.of_reports.Goals as goal

pub returns-clause-failed : goal.returns-clause-failed
unfolding digits
returns-clause-failed c = refl

pub returns-clause-clean : goal.returns-clause-clean
unfolding digits
returns-clause-clean c = refl

pub returns-clause-complete : goal.returns-clause-complete
unfolding digits
returns-clause-complete c = refl

pub returns-clause-ended : goal.returns-clause-ended
unfolding digits
returns-clause-ended c = refl

pub returns-clause-cut : goal.returns-clause-cut
unfolding digits
returns-clause-cut c = refl
