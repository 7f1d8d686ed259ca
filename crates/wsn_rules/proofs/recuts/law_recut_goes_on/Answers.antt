use Rattle.std.proofs.Common.{refl}
use Rattle.wsn_rules.proofs.PlanTheory.RecutGoesOn.{recut_goes_on, bytes_go_on}
use Rattle.wsn_rules.proofs.recuts.law_recut_goes_on.Goals as goal

pub returns : goal.returns
returns c = record {
  nothing = λ events. refl;
  frame = recut_goes_on;
  bytes = bytes_go_on;
}
