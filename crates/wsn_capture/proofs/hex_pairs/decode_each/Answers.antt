use Rattle.std.proofs.Common.{arith, rules}
use Rattle.wsn_capture.proofs.PairedDigits.{decoded_step, decoded_all}
use Rattle.wsn_capture.proofs.hex_pairs.decode_each.Goals as goal

pub loop-i-preserved : goal.loop-i-preserved
loop-i-preserved c =
    decoded_step c.loop-i.valid c.args.digits.now c.loop-i.bytes c.loop-i.i c.is_digit.result c.is_digit-in-loop-i.result
    c.digit_value.result c.digit_value-in-loop-i.result (omega arith) (omega arith) c.is_digit.ensures c.is_digit-in-loop-i.ensures
    c.digit_value.ensures.value c.digit_value-in-loop-i.ensures.value c.loop-i.invariant

pub returns : goal.returns
returns c = decoded_all c.loop-i.valid c.args.digits.now c.loop-i.bytes c.loop-i.i (omega arith) (omega arith) c.loop-i.invariant

pub loop-i-init : goal.loop-i-init
loop-i-init c = search rules

pub overflow_mul-high : goal.overflow_mul-high
overflow_mul-high c = search rules

pub bounds-digits-i : goal.bounds-digits-i
bounds-digits-i c = search rules

pub overflow_mul-low : goal.overflow_mul-low
overflow_mul-low c = search rules

pub overflow_add-low : goal.overflow_add-low
overflow_add-low c = search rules

pub bounds-digits-i-in-loop-i : goal.bounds-digits-i-in-loop-i
bounds-digits-i-in-loop-i c = search rules

pub overflow_mul-bytes : goal.overflow_mul-bytes
overflow_mul-bytes c = search rules

pub overflow_add-bytes : goal.overflow_add-bytes
overflow_add-bytes c = search rules

pub bounds-bytes-i : goal.bounds-bytes-i
bounds-bytes-i c = search rules
