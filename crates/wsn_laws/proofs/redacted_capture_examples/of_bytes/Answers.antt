use Rattle.std.proofs.Common.{refl}
use Rattle.hex.specs.Hex.{encode_with}
use Rattle.wsn_laws.proofs.redacted_capture_examples.of_bytes.Goals as goal

pub returns-clause-hello : goal.returns-clause-hello
unfolding encode_with
returns-clause-hello c = (refl, refl, refl)
