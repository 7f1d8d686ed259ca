use Rattle.std.proofs.Common.{refl}
use Rattle.wsn_rules.proofs.Computed.{found, judged}
use Rattle.wsn_laws.proofs.verdict_examples.close_reason.Goals as goal

pub returns : goal.returns
unfolding found
returns c = record {
  bad = judged _ _ _ _ refl refl refl;
  inside = judged _ _ _ _ refl refl refl;
  second = judged _ _ _ _ refl refl refl;
  before_the_reason = judged _ _ _ _ refl refl refl;
  near_text = judged _ _ _ _ refl refl refl;
  near_cut = judged _ _ _ _ refl refl refl;
  near_ping = judged _ _ _ _ refl refl refl;
}
