use Rattle.std.proofs.Common.{refl}
use Rattle.wsn_laws.proofs.capture_examples.sides.Goals as goal

pub returns : goal.returns
returns c = record {
  closed = λ s ended. refl;
  closed_without_code = λ s ended. refl;
  ended = λ s. refl;
  accepted_so_far = λ s. refl;
  cut = λ s. refl;
  cut_so_far = λ s. refl;
  refused = λ ended. refl;
}
