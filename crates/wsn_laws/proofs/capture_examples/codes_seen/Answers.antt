use Rattle.std.proofs.Common.{refl}
use Rattle.wsn_laws.proofs.capture_examples.codes_seen.Goals as goal

pub returns : goal.returns
returns c = record {
  code = refl;
  other_code = refl;
  no_code = refl;
  refused = λ refusal. refl;
  ended = refl;
  cut = refl;
  running = refl;
}
