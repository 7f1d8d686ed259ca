use Rattle.std.proofs.Common.{refl}
use Rattle.wsn_rules.proofs.Computed.{found, judged}
use Rattle.wsn_laws.proofs.verdict_examples.mask_missing.Goals as goal

pub returns : goal.returns
unfolding found
returns c = record {
  text = judged _ _ _ _ refl refl refl;
  before_the_length = judged _ _ _ _ refl refl refl;
  near_masked = judged _ _ _ _ refl refl refl;
  near_server = judged _ _ _ _ refl refl refl;
}
