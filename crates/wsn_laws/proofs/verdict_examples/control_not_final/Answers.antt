use Rattle.std.proofs.Common.{refl}
use Rattle.wsn_rules.proofs.Computed.{found, judged}
use Rattle.wsn_laws.proofs.verdict_examples.control_not_final.Goals as goal

pub returns : goal.returns
unfolding found
returns c = record {
  ping = judged _ _ _ _ refl refl refl;
  close = judged _ _ _ _ refl refl refl;
  pong = judged _ _ _ _ refl refl refl;
  near_final = judged _ _ _ _ refl refl refl;
  near_data = judged _ _ _ _ refl refl refl;
}
