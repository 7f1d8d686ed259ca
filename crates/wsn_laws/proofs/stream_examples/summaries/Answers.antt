use Rattle.std.proofs.Common.{refl}
use Rattle.wsn_rules.proofs.Computed.{found, judged}
use Rattle.wsn_laws.proofs.stream_examples.summaries.Goals as goal

pub returns : goal.returns
unfolding found
returns c = record {
  each = judged _ _ _ _ refl refl refl;
  empty_close = judged _ _ _ _ refl refl refl;
  no_close = judged _ _ _ _ refl refl refl;
}
