use Rattle.std.proofs.Common.{arith, rules}
use Rattle.wsn_capture.proofs.DigitBlocks.{block_more, last_block}
use Rattle.wsn_capture.proofs.hex_blocks.decode_blocks.Goals as goal

pub loop-at-preserved : goal.loop-at-preserved
loop-at-preserved c = (
  omega arith,
  omega (arith, c.loop-at.invariant.1, c.decode_block.ensures.same_length),
  block_more c.args.digits.now c.loop-at.bytes c.decode_block.new.bytes c.loop-at.at c.loop-at.at c.loop-at.invariant.2 c.decode_block.ensures.before
      c.if-not-decode_block.ensures.decoded (omega arith),
)

pub returns : goal.returns
returns c =
    last_block c.decode_block-2.result c.args.digits.now c.loop-at.bytes c.decode_block-2.new.bytes c.loop-at.at c.args.last
    (omega (arith, c.requires.pairs, c.requires.last, c.loop-at.invariant.1, c.decode_block-2.ensures.same_length))
    (omega (arith, c.loop-at.invariant.1, c.decode_block-2.ensures.same_length)) (omega arith) c.loop-at.invariant.2
    c.decode_block-2.ensures.before c.decode_block-2.ensures.decoded

pub loop-at-init : goal.loop-at-init
loop-at-init c = search rules

pub loop-at-smaller : goal.loop-at-smaller
loop-at-smaller c = omega arith

pub decode_block-requires-clause-pairs : goal.decode_block-requires-clause-pairs
decode_block-requires-clause-pairs c = omega (arith, c.requires.pairs, c.requires.last, c.loop-at.invariant.1)

pub decode_block-requires-clause-room : goal.decode_block-requires-clause-room
decode_block-requires-clause-room c = omega (arith, c.loop-at.invariant.1)

pub returns-then-not-decode_block : goal.returns-then-not-decode_block
returns-then-not-decode_block c = c.if-not-decode_block.ensures.decoded

pub overflow_add-at : goal.overflow_add-at
overflow_add-at c = search rules

pub decode_block-requires-2-clause-pairs : goal.decode_block-requires-2-clause-pairs
decode_block-requires-2-clause-pairs c = omega (arith, c.requires.pairs, c.requires.last, c.loop-at.invariant.1)

pub decode_block-requires-2-clause-room : goal.decode_block-requires-2-clause-room
decode_block-requires-2-clause-room c = omega (arith, c.loop-at.invariant.1)
