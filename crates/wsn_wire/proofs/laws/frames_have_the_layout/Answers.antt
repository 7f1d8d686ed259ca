use Rattle.wsn_wire.proofs.FrameLemmas.{layout_of_frame}
use Rattle.wsn_wire.proofs.laws.frames_have_the_layout.Goals as goal

pub returns : goal.returns
returns c = layout_of_frame
