use Rattle.std.proofs.Common.{refl}
use Rattle.wsn_rules.proofs.Computed.{found, judged}
use Rattle.wsn_laws.proofs.verdict_examples.text_bad.Goals as goal

pub returns : goal.returns
unfolding found
returns c = record {
  no_lead = judged _ _ _ _ refl refl refl;
  surrogate = judged _ _ _ _ refl refl refl;
  past_the_last = judged _ _ _ _ refl refl refl;
  overlong = judged _ _ _ _ refl refl refl;
  before_the_end = judged _ _ _ _ refl refl refl;
  next_frame = judged _ _ _ _ refl refl refl;
  masked = judged _ _ _ _ refl refl refl;
  near_binary = judged _ _ _ _ refl refl refl;
  near_two = judged _ _ _ _ refl refl refl;
  near_four = judged _ _ _ _ refl refl refl;
  near_ping = judged _ _ _ _ refl refl refl;
  near_masked = judged _ _ _ _ refl refl refl;
}
