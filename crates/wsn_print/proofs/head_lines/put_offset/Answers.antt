use Rattle.std.proofs.Common.{◌∙◌, ◌++◌, List, ℕ, take, sym, ap}
use Rattle.wsn_print.proofs.Appended.{two}
use Rattle.wsn_print.proofs.PutParts.{of_last_four}
use Rattle.wsn_print.proofs.head_lines.put_offset.Goals as goal

pub returns-clause-written : goal.returns-clause-written
returns-clause-written c =
    two _ _ _ _ _ c.put-at.ensures.written c.put_last_four.ensures.written
    ∙ ap (λ (bs : List ℕ). take c.args.at c.args.text.now ++ bs) (sym (of_last_four c.args.n c.if-n-lt10000.false c.ranges.n.fits))
