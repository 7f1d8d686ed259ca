use Rattle.std.proofs.Common.{refl}
use Rattle.wsn_laws.proofs.shown_examples.left_over.Goals as goal

pub returns : goal.returns
returns c = record {
  first_frame = refl;
  next_frame = refl;
  control = refl;
  between_frames = refl;
  part_of_next_head = refl;
  part_of_a_head = refl;
  tail = refl;
  no_tail = refl;
}
