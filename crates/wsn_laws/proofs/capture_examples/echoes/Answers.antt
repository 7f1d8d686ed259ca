use Rattle.std.proofs.Common.{refl}
use Rattle.wsn_laws.proofs.capture_examples.echoes.Goals as goal

pub returns : goal.returns
returns c = record {
  same = refl;
  other = refl;
  both_without = refl;
  client_without = refl;
  server_without = refl;
  client_alone = refl;
  server_alone = refl;
  neither = refl;
  refused = λ refusal. refl;
}
