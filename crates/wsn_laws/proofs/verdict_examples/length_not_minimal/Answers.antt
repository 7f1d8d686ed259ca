use Rattle.std.proofs.Common.{refl}
use Rattle.wsn_rules.proofs.Computed.{found, judged}
use Rattle.wsn_laws.proofs.verdict_examples.length_not_minimal.Goals as goal

pub returns : goal.returns
unfolding found
returns c = record {
  two = judged _ _ _ _ refl refl refl;
  eight = judged _ _ _ _ refl refl refl;
  near_two = judged _ _ _ _ refl refl refl;
  near_eight = judged _ _ _ _ refl refl refl;
  near_before = judged _ _ _ _ refl refl refl;
  any_two = judged _ _ _ _ refl refl refl;
  any_eight = judged _ _ _ _ refl refl refl;
  any_whole = judged _ _ _ _ refl refl refl;
}
