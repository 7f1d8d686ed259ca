use Rattle.std.proofs.Common.{refl}
use Rattle.wsn_rules.proofs.Computed.{found, judged}
use Rattle.wsn_laws.proofs.verdict_examples.text_cut.Goals as goal

pub returns : goal.returns
unfolding found
returns c = record {
  one_frame = judged _ _ _ _ refl refl refl;
  empty_frame = judged _ _ _ _ refl refl refl;
  masked_empty_frame = judged _ _ _ _ refl refl refl;
  near_more = judged _ _ _ _ refl refl refl;
  near_whole = judged _ _ _ _ refl refl refl;
  near_three_frames = judged _ _ _ _ refl refl refl;
  near_binary = judged _ _ _ _ refl refl refl;
}
