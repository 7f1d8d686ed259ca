use Rattle.std.proofs.Common.{◌++◌, ◌∙◌, take, ℕ, List, ap}
use Rattle.wsn_print.proofs.DigitPairs.{DECIMAL_PAIRS_at}
use Rattle.wsn_print.proofs.parts.put_pair.Goals as goal

pub returns-clause-written : goal.returns-clause-written
returns-clause-written c = c.put.ensures.written ∙ ap (λ (bs : List ℕ). take c.args.at c.args.text.now ++ bs) (DECIMAL_PAIRS_at c.args.n c.requires.0)
