use Rattle.std.proofs.Common.{refl}
use Rattle.wsn_rules.proofs.Computed.{found, judged}
use Rattle.wsn_laws.proofs.verdict_examples.reserved_opcode.Goals as goal

pub returns : goal.returns
unfolding found
returns c = record {
  three = judged _ _ _ _ refl refl refl;
  seven = judged _ _ _ _ refl refl refl;
  eleven = judged _ _ _ _ refl refl refl;
  fifteen = judged _ _ _ _ refl refl refl;
  before_fin = judged _ _ _ _ refl refl refl;
  near_two = judged _ _ _ _ refl refl refl;
  near_eight = judged _ _ _ _ refl refl refl;
  near_ten = judged _ _ _ _ refl refl refl;
}
