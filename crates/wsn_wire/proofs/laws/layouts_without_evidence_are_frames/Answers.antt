use Rattle.wsn_wire.proofs.FrameLemmas.{frame_at}
use Rattle.wsn_wire.proofs.HeadLemmas.{frame_of_layout}
use Rattle.wsn_wire.proofs.laws.layouts_without_evidence_are_frames.Goals as goal

pub returns : goal.returns
returns c = λ role lengths bytes l shows.
    let encoded = frame_of_layout role lengths bytes l shows in
    (frame_at l.first l.second l.key l.payload, encoded.owed, encoded.not_one, encoded.bytes_are)
