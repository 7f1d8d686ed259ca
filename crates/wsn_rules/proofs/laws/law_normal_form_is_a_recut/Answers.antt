use Rattle.std.proofs.Common.{ap}
use Rattle.wsn_wire.specs.Frame.{stream}
use Rattle.wsn_rules.proofs.NormalFrames.{normal_is_plan, normal_fits, normal_recut}
use Rattle.wsn_rules.proofs.NormalLaws.{one_frame}
use Rattle.wsn_rules.proofs.laws.law_normal_form_is_a_recut.Goals as goal

pub returns : goal.returns
returns c = record {
  fits = λ role limits events range. (normal_is_plan role events, normal_fits role limits events (one_frame limits range));
  frames = normal_recut;
  bytes = λ role events. ap stream (normal_recut role events);
}
