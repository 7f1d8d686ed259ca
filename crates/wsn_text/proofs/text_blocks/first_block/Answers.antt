use Rattle.std.proofs.Common.{refl, rules}
use Rattle.wsn_text.proofs.TextBlocks.{filled}
use Rattle.wsn_text.proofs.text_blocks.first_block.Goals as goal

pub returns : goal.returns
returns c = rw (c.copy_from_slice.ensures.after) (filled c.args.first c.args.bytes.now _ c.requires refl)

pub overflow_sub-start : goal.overflow_sub-start
overflow_sub-start c = search rules

pub overflow_sub-block : goal.overflow_sub-block
overflow_sub-block c = search rules

pub bounds-block-start : goal.bounds-block-start
bounds-block-start c = search rules

pub slice_bounds-copy_from_slice-count : goal.slice_bounds-copy_from_slice-count
slice_bounds-copy_from_slice-count c = search rules

pub slice_bounds-block-start : goal.slice_bounds-block-start
slice_bounds-block-start c = search rules

pub slice_bounds-block-end : goal.slice_bounds-block-end
slice_bounds-block-end c = search rules

pub copy_from_slice-requires : goal.copy_from_slice-requires
copy_from_slice-requires c = search rules
