use Rattle.std.proofs.Common.{refl}
use Rattle.wsn_laws.proofs.printed_lines.statuses_of_comparisons.Goals as goal

pub returns-clause-equal : goal.returns-clause-equal
returns-clause-equal c = refl

pub returns-clause-different : goal.returns-clause-different
returns-clause-different c k = refl

pub returns-clause-first : goal.returns-clause-first
returns-clause-first c verdict = refl

pub returns-clause-second : goal.returns-clause-second
returns-clause-second c verdict = refl

pub returns-clause-stop : goal.returns-clause-stop
returns-clause-stop c stopped = refl
