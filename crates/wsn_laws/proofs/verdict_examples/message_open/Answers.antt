use Rattle.std.proofs.Common.{refl}
use Rattle.wsn_rules.proofs.Computed.{found, judged}
use Rattle.wsn_laws.proofs.verdict_examples.message_open.Goals as goal

pub returns : goal.returns
unfolding found
returns c = record {
  text = judged _ _ _ _ refl refl refl;
  binary = judged _ _ _ _ refl refl refl;
  after_a_ping = judged _ _ _ _ refl refl refl;
  near_finished = judged _ _ _ _ refl refl refl;
  near_ping = judged _ _ _ _ refl refl refl;
}
