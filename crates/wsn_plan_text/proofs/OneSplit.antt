-- A text is split in one way at the first byte of a value.
use Rattle.std.proofs.Common.{◌≡◌, ◌≢◌, ℕ, Option, List, [], ◌∷◌, ◌++◌, refl, sym, arith}
use Rattle.wsn_rules.proofs.Prefixes.{head_same, tail_same, cons_same}
use Rattle.wsn_plan_text.specs.PlanText.{HasNo, preceded_by}

after_same : (byte : ℕ) (rest more : Option (List ℕ)) → preceded_by byte rest ≡ preceded_by byte more → rest ≡ more
after_same byte rest more e = grind (arith, tail_same)

-- what begins with a byte doesn't begin with another
after_begins : (byte x : ℕ) (xs : List ℕ) (rest : Option (List ℕ)) → x ≢ byte → x ∷ xs ≡ preceded_by byte rest → ⊥
after_begins byte x xs rest differs e = grind (arith, head_same)

pub one_cut : (byte : ℕ) (first other : List ℕ) (rest more : Option (List ℕ)) → HasNo byte first → HasNo byte other
    → first ++ preceded_by byte rest ≡ other ++ preceded_by byte more → (first ≡ other) × (rest ≡ more)
one_cut byte [] [] rest more without also e = (refl, after_same byte rest more e)
one_cut byte [] (y ∷ ys) rest more without also e = absurd (after_begins byte y (ys ++ preceded_by byte more) rest also.0 (sym e))
one_cut byte (x ∷ xs) [] rest more without also e = absurd (after_begins byte x (xs ++ preceded_by byte rest) more without.0 e)
one_cut byte (x ∷ xs) (y ∷ ys) rest more without also e =
    let rests = one_cut byte xs ys rest more without.1 also.1 (tail_same x y (xs ++ preceded_by byte rest) (ys ++ preceded_by byte more) e) in
    (cons_same x y xs ys (head_same x y (xs ++ preceded_by byte rest) (ys ++ preceded_by byte more) e) rests.0, rests.1)
