use Rattle.wsn_wire.proofs.FrameLemmas.{frame_bytes_determine}
use Rattle.wsn_wire.proofs.laws.frame_bytes_determine_the_frame.Goals as goal

pub returns : goal.returns
returns c = frame_bytes_determine
