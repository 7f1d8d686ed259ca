-- Pieces in a row: their number, their bytes, and that a prefix of them fits where they do.
use Rattle.std.proofs.Common.{◌≡◌, ℕ, ◌+◌, ◌≤◌, List, [], ◌∷◌, ◌++◌, length, sum_by, sym, ap, ◌∙◌, arith}
use Rattle.std.proofs.lemmas.List.{length-append}
use Rattle.std.proofs.lemmas.List.Sums.{sum-map, sum_by-append}
use Rattle.wsn_rules.specs.declared.step.Step.{Step}
use Rattle.wsn_rules.specs.Limits.{Limits}
use Rattle.wsn_rules.specs.Plan.{piece_length, total}
use Rattle.wsn_rules.specs.Fitting.{PiecesFit}

pub length_push : (pieces : List Step) (step : Step) → length (pieces ++ step ∷ []) ≡ length pieces + 1
length_push pieces step = length-append pieces (step ∷ []) ∙ omega arith

pub total-append : (pieces more : List Step) → total (pieces ++ more) ≡ total pieces + total more
total-append pieces more =
    sum-map piece_length (pieces ++ more) ∙ sum_by-append piece_length pieces more
    ∙ sym (ap (λ (n : ℕ). n + total more) (sum-map piece_length pieces) ∙ ap (λ (n : ℕ). sum_by piece_length pieces + n) (sum-map piece_length more))

pub total_push : (pieces : List Step) (step : Step) → total (pieces ++ step ∷ []) ≡ total pieces + piece_length step
total_push pieces step = total-append pieces (step ∷ []) ∙ omega arith

pub pieces_fit_front : (limits : Limits) (pieces more : List Step) (text : List ℕ) → PiecesFit limits (pieces ++ more) text → PiecesFit limits pieces text
pieces_fit_front limits pieces more text fit =
    let size : total (pieces ++ more) ≤ length text = fit.size in
    let sum_is = total-append pieces more in
    let count_is = length-append pieces more in
    record {
      size = omega arith;
      count = λ most is. let within : length (pieces ++ more) + 1 ≤ most = fit.count most is in omega arith;
    }
