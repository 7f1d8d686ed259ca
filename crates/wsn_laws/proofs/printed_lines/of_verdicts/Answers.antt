use Rattle.std.proofs.Common.{refl}
use Rattle.std.specs.Fmt.{digits}
use Rattle.wsn_laws.proofs.printed_lines.of_verdicts.Goals as goal

pub returns-clause-accepted : goal.returns-clause-accepted
unfolding digits
returns-clause-accepted c s = refl

pub returns-clause-unfinished : goal.returns-clause-unfinished
unfolding digits
returns-clause-unfinished c s = refl

pub returns-clause-unfinished_empty : goal.returns-clause-unfinished_empty
unfolding digits
returns-clause-unfinished_empty c s = refl

pub returns-clause-tail : goal.returns-clause-tail
unfolding digits
returns-clause-tail c s = refl

pub returns-clause-cut : goal.returns-clause-cut
unfolding digits
returns-clause-cut c s = refl

pub returns-clause-refused : goal.returns-clause-refused
unfolding digits
returns-clause-refused c = refl

pub returns-clause-refused_late : goal.returns-clause-refused_late
unfolding digits
returns-clause-refused_late c = refl
