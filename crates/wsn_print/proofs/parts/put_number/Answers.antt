use Rattle.std.proofs.Common.{◌++◌, ◌∙◌, take, ℕ, List, sym, ap}
use Rattle.wsn_print.proofs.PutParts.{of_three, of_four}
use Rattle.std.proofs.lemmas.Fmt.{decimal_digit}
use Rattle.itoa.proofs.Decimal.{decimal_two}
use Rattle.wsn_print.proofs.Appended.{two}
use Rattle.wsn_print.proofs.parts.put_number.Goals as goal

pub returns-then-n-lt10-clause-written : goal.returns-then-n-lt10-clause-written
returns-then-n-lt10-clause-written c = c.put.ensures.written ∙ ap (λ (bs : List ℕ). take c.args.at c.args.text.now ++ bs) (sym (decimal_digit c.args.n c.if-n-lt10.true))

pub returns-then-n-lt100-clause-written : goal.returns-then-n-lt100-clause-written
returns-then-n-lt100-clause-written c =
    c.put_pair.ensures.written ∙ ap (λ (bs : List ℕ). take c.args.at c.args.text.now ++ bs) (sym (decimal_two c.args.n c.if-n-lt10.false c.if-n-lt100.true))

pub returns-then-n-lt1000-clause-written : goal.returns-then-n-lt1000-clause-written
returns-then-n-lt1000-clause-written c =
    two _ _ _ _ _ c.put-at.ensures.written c.put_pair-then-n-lt1000.ensures.written
    ∙ ap (λ (bs : List ℕ). take c.args.at c.args.text.now ++ bs) (sym (of_three c.args.n c.if-n-lt100.false c.if-n-lt1000.true))

pub returns-then-n-lt10000-clause-written : goal.returns-then-n-lt10000-clause-written
returns-then-n-lt10000-clause-written c =
    two _ _ _ _ _ c.put_pair-at.ensures.written c.put_pair-then-n-lt10000.ensures.written
    ∙ ap (λ (bs : List ℕ). take c.args.at c.args.text.now ++ bs) (sym (of_four c.args.n c.if-n-lt1000.false c.if-n-lt10000.true))
