use Rattle.std.proofs.Common.{ℕ, ◌+◌, ◌/◌, ◌%◌, [], ◌∷◌, take}
use Rattle.wsn_print.proofs.Appended.{two}
use Rattle.wsn_print.proofs.parts.put_last_four.Goals as goal

pub returns-clause-written : goal.returns-clause-written
returns-clause-written c =
    let four : ℕ = c.args.n % 10000 in
    two (take c.args.at c.args.text.now) (take c.put_pair-at.result c.put_pair-at.new.text) (take c.put_pair.result c.put_pair.new.text)
    ((48 + four / 100 / 10) ∷ (48 + four / 100 % 10) ∷ []) ((48 + four % 100 / 10) ∷ (48 + four % 100 % 10) ∷ [])
    c.put_pair-at.ensures.written c.put_pair.ensures.written
