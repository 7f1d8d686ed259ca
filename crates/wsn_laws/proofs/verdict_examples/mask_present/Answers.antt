use Rattle.std.proofs.Common.{refl}
use Rattle.wsn_rules.proofs.Computed.{found, judged}
use Rattle.wsn_laws.proofs.verdict_examples.mask_present.Goals as goal

pub returns : goal.returns
unfolding found
returns c = record {
  text = judged _ _ _ _ refl refl refl;
  near_bare = judged _ _ _ _ refl refl refl;
  near_client = judged _ _ _ _ refl refl refl;
}
