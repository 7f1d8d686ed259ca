use Rattle.wsn_laws.proofs.Heads.{one_frame}
use Rattle.wsn_laws.proofs.object_laws.law_frame_objects.Goals as goal

pub returns : goal.returns
returns c = one_frame
