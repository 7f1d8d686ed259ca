use Rattle.std.proofs.Common.{refl}
use Rattle.wsn_rules.proofs.Computed.{found, judged}
use Rattle.wsn_laws.proofs.verdict_examples.close_one_byte.Goals as goal

pub returns : goal.returns
unfolding found
returns c = record {
  one = judged _ _ _ _ refl refl refl;
  masked = judged _ _ _ _ refl refl refl;
  near_none = judged _ _ _ _ refl refl refl;
  near_two = judged _ _ _ _ refl refl refl;
  near_ping = judged _ _ _ _ refl refl refl;
}
