use Rattle.std.proofs.Common.{arith}
use Rattle.wsn_print.proofs.shown.ViewLimit.whole.Goals as goal

pub overflow_mul-bytes : goal.overflow_mul-bytes
overflow_mul-bytes c =
    let few = c.message.ensures.in_range.message in
    let message = c.message.ensures.value in
    let greatest = c.max-greatest.ensures in
    omega (arith, few, message, greatest)

pub invariant_of-result : goal.invariant_of-result
invariant_of-result c =
    let few = c.message.ensures.in_range.message in
    let message = c.message.ensures.value in
    let greatest = c.max-greatest.ensures in
    omega (arith, few, message, greatest)

pub returns : goal.returns
returns c =
    let message = c.message.ensures.value in
    let greatest = c.max-greatest.ensures in
    omega (arith, message, greatest)
