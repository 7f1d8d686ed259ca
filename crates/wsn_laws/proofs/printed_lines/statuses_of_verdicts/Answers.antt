use Rattle.std.proofs.Common.{refl}
use Rattle.wsn_laws.proofs.printed_lines.statuses_of_verdicts.Goals as goal

pub returns-clause-accepted : goal.returns-clause-accepted
returns-clause-accepted c s = refl

pub returns-clause-cut : goal.returns-clause-cut
returns-clause-cut c s = refl

pub returns-clause-refused : goal.returns-clause-refused
returns-clause-refused c refusal = refl

pub returns-clause-stop : goal.returns-clause-stop
returns-clause-stop c stopped = refl
