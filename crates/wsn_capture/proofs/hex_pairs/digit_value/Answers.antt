use Rattle.std.proofs.Common.{rules}
use Rattle.wsn_capture.proofs.DigitTable.{value_at}
use Rattle.wsn_capture.proofs.hex_pairs.digit_value.Goals as goal

pub returns : goal.returns
returns c = record { value = value_at c.args.byte c.ranges.byte.fits; small = search rules }

pub bounds-byte : goal.bounds-byte
bounds-byte c = search rules
