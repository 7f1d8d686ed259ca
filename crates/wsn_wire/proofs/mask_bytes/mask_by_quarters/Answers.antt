use Rattle.std.proofs.Common.{◌-◌, length, arith}
use Rattle.wsn_wire.proofs.MaskLemmas.{masked-by-ends}
use Rattle.wsn_wire.proofs.mask_bytes.mask_by_quarters.Goals as goal

pub returns : goal.returns
returns c =
    masked-by-ends c.args.key c.args.start c.args.bytes.now c.quarter_lanes.result c.quarter_lanes-2.result (length c.args.bytes.now - 16) 16 (omega arith) (omega arith)
    c.quarter_lanes.ensures c.quarter_lanes-2.ensures
