use Rattle.std.proofs.Common.{rules}
use Rattle.wsn_capture.proofs.DigitBlocks.{values_are}
use Rattle.wsn_capture.proofs.hex_blocks.digit_values.Goals as goal

pub returns : goal.returns
returns c = values_are c.args.digits c.fits-digits.0 c.fits-digits.1

pub overflow_sub-decimal : goal.overflow_sub-decimal
overflow_sub-decimal c = search rules
