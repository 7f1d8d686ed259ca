use Rattle.std.proofs.Common.{refl}
use Rattle.std.specs.Fmt.{digits}
use Rattle.hex.specs.Hex.{encode_with}
use Rattle.wsn_laws.proofs.plan_text_examples.written_plans.Goals as goal

pub returns-clause-three : goal.returns-clause-three
unfolding digits encode_with
returns-clause-three c = refl

pub returns-clause-masked : goal.returns-clause-masked
unfolding digits encode_with
returns-clause-masked c = refl

pub returns-clause-small_key : goal.returns-clause-small_key
unfolding digits encode_with
returns-clause-small_key c = refl

pub returns-clause-longer : goal.returns-clause-longer
unfolding digits encode_with
returns-clause-longer c = refl

pub returns-clause-longest : goal.returns-clause-longest
unfolding digits encode_with
returns-clause-longest c = refl
