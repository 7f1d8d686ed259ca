use Rattle.std.proofs.Common.{refl}
use Rattle.wsn_rules.proofs.Computed.{found, judged}
use Rattle.wsn_laws.proofs.verdict_examples.control_too_long.Goals as goal

pub returns : goal.returns
unfolding found
returns c = record {
  two = judged _ _ _ _ refl refl refl;
  eight = judged _ _ _ _ refl refl refl;
  close = judged _ _ _ _ refl refl refl;
  any_length = judged _ _ _ _ refl refl refl;
  near_125 = judged _ _ _ _ refl refl refl;
  near_data = judged _ _ _ _ refl refl refl;
}
