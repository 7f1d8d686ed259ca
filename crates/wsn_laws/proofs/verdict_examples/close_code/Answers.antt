use Rattle.std.proofs.Common.{refl}
use Rattle.wsn_rules.proofs.Computed.{found, judged}
use Rattle.wsn_laws.proofs.verdict_examples.close_code.Goals as goal

pub returns : goal.returns
unfolding found
returns c = record {
  below = judged _ _ _ _ refl refl refl;
  reserved = judged _ _ _ _ refl refl refl;
  not_sent = judged _ _ _ _ refl refl refl;
  tls = judged _ _ _ _ refl refl refl;
  before_libraries = judged _ _ _ _ refl refl refl;
  past = judged _ _ _ _ refl refl refl;
  swapped = judged _ _ _ _ refl refl refl;
  near_1000 = judged _ _ _ _ refl refl refl;
  near_1003 = judged _ _ _ _ refl refl refl;
  near_1007 = judged _ _ _ _ refl refl refl;
  near_1014 = judged _ _ _ _ refl refl refl;
  near_3000 = judged _ _ _ _ refl refl refl;
  near_4999 = judged _ _ _ _ refl refl refl;
}
