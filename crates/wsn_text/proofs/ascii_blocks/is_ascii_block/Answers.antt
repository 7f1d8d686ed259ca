use Rattle.std.proofs.Common.{arith}
use Rattle.wsn_text.proofs.Blocks.{block_below}
use Rattle.wsn_text.proofs.ascii_blocks.is_ascii_block.Goals as goal

pub returns : goal.returns
returns c low = block_below c.args.bytes.now c.args.at 64 (omega arith) (omega arith) low
