use Rattle.std.proofs.Common.{ℕ, List, ap, arith, length, take, drop, ◌-◌}
use Rattle.wsn_events.proofs.Blocks.{same_further, same_to_end}
use Rattle.wsn_events.proofs.equal_bytes.are_equal_in_blocks.Goals as goal

pub loop-at-preserved : goal.loop-at-preserved
loop-at-preserved c =
    (omega arith, same_further 64 c.loop-at.at c.args.bytes.now c.args.others.now c.loop-at.invariant.1 (c.are_equal_blocks.ensures.0 c.if-not-are_equal_blocks.false))

pub returns : goal.returns
returns c =
    let last = length c.args.bytes.now - 64 in (
      λ equal. same_to_end 64 c.loop-at.at last c.args.bytes.now c.args.others.now c.requires.same (omega (arith, c.requires.long)) (omega arith)
          c.loop-at.invariant.1 (c.are_equal_blocks-2.ensures.0 equal),
      λ same. c.are_equal_blocks-2.ensures.1 (ap (λ (bs : List ℕ). take 64 (drop last bs)) same),
    )
