use Rattle.std.proofs.Common.{refl}
use Rattle.wsn_rules.proofs.Computed.{found, judged}
use Rattle.wsn_laws.proofs.verdict_examples.nothing_to_continue.Goals as goal

pub returns : goal.returns
unfolding found
returns c = record {
  last = judged _ _ _ _ refl refl refl;
  more = judged _ _ _ _ refl refl refl;
  finished = judged _ _ _ _ refl refl refl;
  near = judged _ _ _ _ refl refl refl;
}
