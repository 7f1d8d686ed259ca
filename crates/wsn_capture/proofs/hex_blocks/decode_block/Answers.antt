use Rattle.std.proofs.Common.{arith, rules}
use Rattle.std.proofs.lemmas.Simd.{get_or-put_chunk_below, length-put_chunk}
use Rattle.wsn_capture.proofs.DigitBlocks.{block_decoded}
use Rattle.wsn_capture.proofs.hex_blocks.decode_block.Goals as goal

pub returns : goal.returns
returns c = record {
  same_length = length-put_chunk c.args.at c.args.bytes.now _;
  before = λ i lt. get_or-put_chunk_below c.args.at c.args.bytes.now _ i 0 lt;
  decoded = block_decoded c.digit_values-high.result c.digit_values-low.result (omega arith) (omega arith) c.args.digits.now c.args.bytes.now c.args.at
      c.requires.pairs c.requires.room c.digit_values-high.ensures c.digit_values-low.ensures;
}

pub overflow_mul-first : goal.overflow_mul-first
overflow_mul-first c = search rules

pub bounds-digits-at : goal.bounds-digits-at
bounds-digits-at c = search rules

pub overflow_mul-second : goal.overflow_mul-second
overflow_mul-second c = search rules

pub overflow_add-second : goal.overflow_add-second
overflow_add-second c = search rules

pub bounds-digits-at-2 : goal.bounds-digits-at-2
bounds-digits-at-2 c = search rules

pub store-bytes : goal.store-bytes
store-bytes c = search rules
