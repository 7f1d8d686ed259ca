use Rattle.wsn_hint.proofs.SideFits.{head_by}
use Rattle.wsn_hint.proofs.sides.is_compressed_head.Goals as goal

pub returns : goal.returns
returns c = rw c.is_some.ensures (head_by c.args.byte c.without_compression.result c.without_compression.ensures.plain c.without_compression.ensures.none)
