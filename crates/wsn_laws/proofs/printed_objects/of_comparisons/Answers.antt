use Rattle.std.proofs.Common.{refl}
use Rattle.std.specs.Fmt.{digits}
use Rattle.wsn_laws.proofs.printed_objects.of_comparisons.Goals as goal

pub returns-clause-equal : goal.returns-clause-equal
unfolding digits
returns-clause-equal c = refl

pub returns-clause-different : goal.returns-clause-different
unfolding digits
returns-clause-different c = refl

pub returns-clause-first : goal.returns-clause-first
unfolding digits
returns-clause-first c = refl

pub returns-clause-second : goal.returns-clause-second
unfolding digits
returns-clause-second c = refl
