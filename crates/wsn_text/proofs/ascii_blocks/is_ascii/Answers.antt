use Rattle.std.proofs.Common.{arith}
use Rattle.wsn_text.proofs.Blocks.{text_of_blocks}
use Rattle.wsn_text.proofs.ascii_blocks.is_ascii.Goals as goal

pub returns-in_default : goal.returns-in_default
returns-in_default c low = c.is_short_ascii.ensures low

pub returns : goal.returns
returns c low = text_of_blocks c.args.bytes.now c.loop-at.at c.in-Some.last 64 c.loop-at.invariant.1 (omega arith) (c.is_ascii_block-2.ensures low) (omega (arith, c.in-Some.ensures.0, c.in-Some.ensures.1))
