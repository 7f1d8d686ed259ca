use Rattle.std.proofs.Common.{refl}
use Rattle.wsn_laws.proofs.printed_lines.statuses_of_outcomes.Goals as goal

pub returns-clause-clean : goal.returns-clause-clean
returns-clause-clean c = refl

pub returns-clause-complete : goal.returns-clause-complete
returns-clause-complete c = refl

pub returns-clause-failed : goal.returns-clause-failed
returns-clause-failed c = refl

pub returns-clause-abnormal : goal.returns-clause-abnormal
returns-clause-abnormal c = refl

pub returns-clause-half : goal.returns-clause-half
returns-clause-half c = refl

pub returns-clause-open_streams : goal.returns-clause-open_streams
returns-clause-open_streams c = refl
