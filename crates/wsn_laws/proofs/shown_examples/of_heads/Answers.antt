use Rattle.std.proofs.Common.{refl}
use Rattle.wsn_laws.proofs.shown_examples.of_heads.Goals as goal

pub returns-clause-ping_between : goal.returns-clause-ping_between
returns-clause-ping_between c = refl

pub returns-clause-masked : goal.returns-clause-masked
returns-clause-masked c = refl
