use Rattle.std.proofs.Common.{refl}
use Rattle.wsn_rules.proofs.Computed.{found, means}
use Rattle.wsn_laws.proofs.stream_examples.meanings.Goals as goal

pub returns : goal.returns
unfolding found
returns c = record {
  ping_between = means _ _ _ _ refl refl refl;
  masked = means _ _ _ _ refl refl refl;
  unfinished = means _ _ _ _ refl refl refl;
  before_a_refusal = means _ _ _ _ refl refl refl;
  empty = means _ _ _ _ refl refl refl;
  nothing = means _ _ _ _ refl refl refl;
}
