use Rattle.std.proofs.Common.{refl}
use Rattle.std.specs.Fmt.{digits}
use Rattle.hex.specs.Hex.{encode_with}
use Rattle.wsn_laws.proofs.plan_text_examples.written_steps.Goals as goal

pub returns : goal.returns
unfolding digits encode_with
returns c = record {
  piece = refl;
  last = refl;
  control = refl;
  piece_with_key = refl;
  last_with_key = refl;
  control_with_key = refl;
  piece_two = refl;
  piece_eight = refl;
  last_two = refl;
  last_eight = refl;
}
