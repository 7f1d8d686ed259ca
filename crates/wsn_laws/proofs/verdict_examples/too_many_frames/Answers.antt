use Rattle.std.proofs.Common.{refl}
use Rattle.wsn_rules.proofs.Computed.{found, judged}
use Rattle.wsn_laws.proofs.verdict_examples.too_many_frames.Goals as goal

pub returns : goal.returns
unfolding found
returns c = record {
  one = judged _ _ _ _ refl refl refl;
  last = judged _ _ _ _ refl refl refl;
  two = judged _ _ _ _ refl refl refl;
  after_reserved_bits = judged _ _ _ _ refl refl refl;
  near_two = judged _ _ _ _ refl refl refl;
  near_next = judged _ _ _ _ refl refl refl;
  near_ping = judged _ _ _ _ refl refl refl;
  near_no_limit = judged _ _ _ _ refl refl refl;
}
