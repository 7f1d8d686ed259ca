use Rattle.std.proofs.Common.{arith, [], ◌∷◌, ◌++◌, ◌∙◌, take, ℕ, List, ap}
use Rattle.hex.specs.Hex.{encode_lower}
use Rattle.wsn_print.proofs.DigitPairs.{HEX_PAIRS_at}
use Rattle.wsn_print.proofs.parts.put_hex.Goals as goal

pub returns-clause-written : goal.returns-clause-written
returns-clause-written c =
    let same = c.from-from.ensures in
    c.put.ensures.written
    ∙ ap (λ (bs : List ℕ). take c.args.at c.args.text.now ++ bs) (HEX_PAIRS_at c.from-from.result (omega (arith, same, c.ranges.byte.fits)) ∙ ap (λ (n : ℕ). encode_lower (n ∷ [])) same)
