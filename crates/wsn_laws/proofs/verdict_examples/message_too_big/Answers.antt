use Rattle.std.proofs.Common.{refl}
use Rattle.wsn_rules.proofs.Computed.{found, judged}
use Rattle.wsn_laws.proofs.verdict_examples.message_too_big.Goals as goal

pub returns : goal.returns
unfolding found
returns c = record {
  joined = judged _ _ _ _ refl refl refl;
  at_once = judged _ _ _ _ refl refl refl;
  two = judged _ _ _ _ refl refl refl;
  eight = judged _ _ _ _ refl refl refl;
  near_joined = judged _ _ _ _ refl refl refl;
  near_empty = judged _ _ _ _ refl refl refl;
  near_two = judged _ _ _ _ refl refl refl;
  near_ping = judged _ _ _ _ refl refl refl;
  near_next = judged _ _ _ _ refl refl refl;
}
