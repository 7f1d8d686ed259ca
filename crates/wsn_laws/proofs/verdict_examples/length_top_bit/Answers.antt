use Rattle.std.proofs.Common.{refl}
use Rattle.wsn_rules.proofs.Computed.{found, judged}
use Rattle.wsn_laws.proofs.verdict_examples.length_top_bit.Goals as goal

pub returns : goal.returns
unfolding found
returns c = record {
  least = judged _ _ _ _ refl refl refl;
  any_length = judged _ _ _ _ refl refl refl;
  near_below = judged _ _ _ _ refl refl refl;
  near_cut = judged _ _ _ _ refl refl refl;
}
