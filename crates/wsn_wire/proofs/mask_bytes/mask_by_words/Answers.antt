use Rattle.std.proofs.Common.{◌-◌, length, arith}
use Rattle.wsn_wire.proofs.MaskLemmas.{masked-by-ends}
use Rattle.wsn_wire.proofs.mask_bytes.mask_by_words.Goals as goal

pub returns : goal.returns
returns c =
    masked-by-ends c.args.key c.args.start c.args.bytes.now c.word_lanes.result c.word_lanes-2.result (length c.args.bytes.now - 4) 4 (omega arith) (omega arith)
    c.word_lanes.ensures c.word_lanes-2.ensures
