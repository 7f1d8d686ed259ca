use Rattle.std.proofs.Common.{◌-◌, length, arith}
use Rattle.wsn_wire.proofs.MaskLemmas.{masked-by-ends}
use Rattle.wsn_wire.proofs.mask_bytes.mask_by_eighths.Goals as goal

pub returns : goal.returns
returns c =
    masked-by-ends c.args.key c.args.start c.args.bytes.now c.eighth_lanes.result c.eighth_lanes-2.result (length c.args.bytes.now - 8) 8 (omega arith) (omega arith)
    c.eighth_lanes.ensures c.eighth_lanes-2.ensures
