use Rattle.wsn_wire.proofs.HeadLemmas.{frame_shows_nothing}
use Rattle.wsn_wire.proofs.laws.owed_heads_have_no_evidence.Goals as goal

pub returns : goal.returns
returns c = frame_shows_nothing
