use Rattle.wsn_capture.proofs.PairedDigits.{AreDecoded}
use Rattle.wsn_capture.proofs.hex_pairs.decode_each.Given as goal

-- the pairs so far are decoded, or one of the digits isn't valid
abbrev pub invariant-loop-i : goal.invariant-loop-i
invariant-loop-i l = AreDecoded l.valid l.digits l.bytes l.i
