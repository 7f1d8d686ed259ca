use Rattle.std.proofs.Common.{arith, ◌≡◌, ◌++◌, take, ℕ, subst}
use Rattle.wsn_print.proofs.PutParts.{front_of_block}
use Rattle.wsn_print.proofs.parts.put_front.Goals as goal

pub returns-clause-written : goal.returns-clause-written
returns-clause-written c =
    front_of_block c.args.at c.args.len c.args.text.now c.put_slice.new.text c.args.block.now (omega (arith, c.requires.room)) c.requires.front
    (subst (λ (n : ℕ). take n c.put_slice.new.text ≡ take c.args.at c.args.text.now ++ c.args.block.now) c.put_slice.ensures.end c.put_slice.ensures.written)
