use Rattle.std.proofs.Common.{refl}
use Rattle.wsn_rules.proofs.Computed.{found, judged}
use Rattle.wsn_laws.proofs.verdict_examples.reserved_bits.Goals as goal

pub returns : goal.returns
unfolding found
returns c = record {
  rsv1 = judged _ _ _ _ refl refl refl;
  rsv2 = judged _ _ _ _ refl refl refl;
  rsv3 = judged _ _ _ _ refl refl refl;
  after_a_frame = judged _ _ _ _ refl refl refl;
  near = judged _ _ _ _ refl refl refl;
}
