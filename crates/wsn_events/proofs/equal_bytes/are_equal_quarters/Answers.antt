use Rattle.std.proofs.Common.{arith, drop, length-drop, length-take-le}
use Rattle.wsn_events.proofs.Blocks.{same_blocks}
use Rattle.wsn_events.proofs.equal_bytes.are_equal_quarters.Goals as goal

pub returns : goal.returns
returns c =
    let at = c.args.at in
    same_blocks 16 _ _ (omega arith) (length-take-le 16 (drop at c.args.bytes.now) (omega (arith, length-drop at c.args.bytes.now, c.requires.0)))
    (length-take-le 16 (drop at c.args.others.now) (omega (arith, length-drop at c.args.others.now, c.requires.1)))
