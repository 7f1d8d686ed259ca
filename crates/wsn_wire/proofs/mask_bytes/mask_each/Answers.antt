use Rattle.std.proofs.lemmas.Grind.{common_steps}
use Rattle.std.proofs.Common.{arith, rules}
use Rattle.wsn_wire.proofs.MaskLemmas.{masked_front-set}
use Rattle.wsn_wire.proofs.mask_bytes.mask_each.Goals as goal

pub loop-i-preserved : goal.loop-i-preserved
loop-i-preserved c = rw c.loop-i.invariant (masked_front-set c.args.key c.args.start c.args.bytes.now c.loop-i.i (omega arith))

pub loop-i-init : goal.loop-i-init
loop-i-init c = search rules

pub overflow_add-bytes : goal.overflow_add-bytes
overflow_add-bytes c = search rules

pub bounds-key-start : goal.bounds-key-start
bounds-key-start c = search rules

pub bounds-bytes-i : goal.bounds-bytes-i
bounds-bytes-i c = search rules

pub bounds-bytes-i-in-loop-i : goal.bounds-bytes-i-in-loop-i
bounds-bytes-i-in-loop-i c = search rules

pub returns : goal.returns
returns c = grind (arith, common_steps)
