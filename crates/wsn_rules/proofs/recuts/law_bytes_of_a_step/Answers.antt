use Rattle.std.proofs.Common.{refl}
use Rattle.wsn_rules.proofs.PlanTheory.RecutGoesOn.{bytes_of_piece, bytes_of_last}
use Rattle.wsn_rules.proofs.recuts.law_bytes_of_a_step.Goals as goal

pub returns : goal.returns
returns c = record {
  piece = bytes_of_piece;
  last = bytes_of_last;
  control = λ count held later op body key. refl;
}
