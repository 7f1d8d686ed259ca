use Rattle.std.proofs.Common.{◌-◌, length, arith}
use Rattle.wsn_wire.proofs.MaskLemmas.{masked-by-ends}
use Rattle.wsn_wire.proofs.mask_bytes.mask_by_halves.Goals as goal

pub returns : goal.returns
returns c =
    masked-by-ends c.args.key c.args.start c.args.bytes.now c.half_lanes.result c.half_lanes-2.result (length c.args.bytes.now - 32) 32 (omega arith) (omega arith)
    c.half_lanes.ensures c.half_lanes-2.ensures
