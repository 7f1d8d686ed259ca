use Rattle.std.proofs.Common.{refl}
use Rattle.wsn_laws.proofs.shown_examples.of_frames.Goals as goal

pub returns : goal.returns
returns c = record {
  hello = refl;
  not_final = refl;
  ping_between = refl;
  second_message = refl;
  interrupted = refl;
}
