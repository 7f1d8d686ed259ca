use Rattle.std.proofs.Common.{rules}
use Rattle.wsn_capture.proofs.DigitTable.{is_digit_at}
use Rattle.wsn_capture.proofs.hex_pairs.is_digit.Goals as goal

pub returns : goal.returns
returns c = is_digit_at c.args.byte c.ranges.byte.fits

pub bounds-byte : goal.bounds-byte
bounds-byte c = search rules
