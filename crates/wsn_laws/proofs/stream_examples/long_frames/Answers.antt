use Rattle.std.proofs.Common.{refl}
use Rattle.wsn_rules.proofs.Computed.{found, judged}
use Rattle.wsn_laws.proofs.stream_examples.long_frames.Goals as goal

pub returns : goal.returns
unfolding found
returns c = record {
  ping = judged _ _ _ _ refl refl refl;
  two = judged _ _ _ _ refl refl refl;
  longer_form = judged _ _ _ _ refl refl refl;
}
