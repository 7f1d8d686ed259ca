use Rattle.std.proofs.Common.{refl}
use Rattle.std.specs.Fmt.{digits}
use Rattle.wsn_laws.proofs.printed_reports.of_report_meanings.Goals as goal

pub returns-clause-clean : goal.returns-clause-clean
unfolding digits
returns-clause-clean c report = refl

pub returns-clause-complete : goal.returns-clause-complete
unfolding digits
returns-clause-complete c report = refl

pub returns-clause-ended : goal.returns-clause-ended
unfolding digits
returns-clause-ended c report = refl

pub returns-clause-cut : goal.returns-clause-cut
unfolding digits
returns-clause-cut c report = refl

pub returns-clause-half : goal.returns-clause-half
unfolding digits
returns-clause-half c report = refl

pub returns-clause-nothing : goal.returns-clause-nothing
unfolding digits
returns-clause-nothing c report = refl

pub returns-clause-refused : goal.returns-clause-refused
unfolding digits
returns-clause-refused c report = refl

pub returns-clause-exchanged : goal.returns-clause-exchanged
unfolding digits
returns-clause-exchanged c report = refl

pub returns-clause-reserved : goal.returns-clause-reserved
unfolding digits
returns-clause-reserved c report = refl
