use Rattle.std.proofs.Common.{◌%◌, ◌+◌}
use Rattle.wsn_wire.proofs.MaskLemmas.{words-masked}
use Rattle.wsn_wire.proofs.mask_bytes.quarter_lanes.Goals as goal

-- A vector of 16 bytes is 4 rounds of the key.
pub returns : goal.returns
returns c =
    let known = c.key_word.ensures in
    let turn = c.args.start % 4 in
    words-masked c.args.key c.args.start c.key_word.result (known.bytes c.args.start) (known.bytes (turn + 1)) (known.bytes (turn + 2)) (known.bytes (turn + 3)) known.round 4
