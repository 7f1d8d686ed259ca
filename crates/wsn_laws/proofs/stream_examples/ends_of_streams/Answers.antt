use Rattle.std.proofs.Common.{refl}
use Rattle.wsn_rules.proofs.Computed.{found, judged}
use Rattle.wsn_laws.proofs.stream_examples.ends_of_streams.Goals as goal

pub returns : goal.returns
unfolding found
returns c = record {
  empty = judged _ _ _ _ refl refl refl;
  in_a_message = judged _ _ _ _ refl refl refl;
  in_a_head = judged _ _ _ _ refl refl refl;
  tail = judged _ _ _ _ refl refl refl;
  two_closes = judged _ _ _ _ refl refl refl;
  close_in_a_message = judged _ _ _ _ refl refl refl;
  close_in_an_empty_message = judged _ _ _ _ refl refl refl;
  masked = judged _ _ _ _ refl refl refl;
  ping_between = judged _ _ _ _ refl refl refl;
}
