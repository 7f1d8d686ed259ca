-- The bytes at the beginning that two payloads share, counted one after another.
use Rattle.std.proofs.Common.{◌≡◌, ◌≢◌, ℕ, suc, ◌+◌, ◌<◌, min, List, [], ◌∷◌, length, drop, get_or, refl, ◌∙◌, subst, drop-cons, arith}
use Rattle.std.proofs.lemmas.Bool.Decides.{nat_tests}
use Rattle.std.proofs.lemmas.List.{drop_all}
use Rattle.wsn_print.specs.DifferingPayloads.{common_length}

same_head : (a b : ℕ) (xs ys : List ℕ) → a ≡ b → common_length (a ∷ xs) (b ∷ ys) ≡ common_length xs ys + 1
same_head a b xs ys is = grind (arith, nat_tests)

other_head : (a b : ℕ) (xs ys : List ℕ) → a ≢ b → common_length (a ∷ xs) (b ∷ ys) ≡ 0
other_head a b xs ys is = grind (arith, nat_tests)

none_left : (xs : List ℕ) → common_length xs [] ≡ 0
none_left [] = refl
none_left (a ∷ xs) = refl

heads : (xs ys : List ℕ) (k : ℕ) → k < length xs → k < length ys
    → common_length (drop k xs) (drop k ys) ≡ common_length (get_or xs k 0 ∷ drop (suc k) xs) (get_or ys k 0 ∷ drop (suc k) ys)
heads xs ys k one two = grind (arith, drop-cons)

-- One byte more that is the same in both.
pub one_more : (xs ys : List ℕ) (k : ℕ) → k < length xs → k < length ys → get_or xs k 0 ≡ get_or ys k 0 → common_length xs ys ≡ k + common_length (drop k xs) (drop k ys)
    → common_length xs ys ≡ (k + 1) + common_length (drop (k + 1) xs) (drop (k + 1) ys)
one_more xs ys k one two is so_far =
    let next : suc k ≡ k + 1 = omega arith in
    let step = heads xs ys k one two ∙ same_head (get_or xs k 0) (get_or ys k 0) (drop (suc k) xs) (drop (suc k) ys) is in
    let all : common_length xs ys ≡ suc k + common_length (drop (suc k) xs) (drop (suc k) ys) = omega (arith, so_far, step) in
    subst (λ (m : ℕ). common_length xs ys ≡ m + common_length (drop m xs) (drop m ys)) next all

-- One that isn't.
pub differs_at : (xs ys : List ℕ) (k : ℕ) → k < length xs → k < length ys → get_or xs k 0 ≢ get_or ys k 0 → common_length xs ys ≡ k + common_length (drop k xs) (drop k ys) → k ≡ common_length xs ys
differs_at xs ys k one two is so_far = grind (arith, heads, other_head)

-- No byte more of one of them.
pub ends_at : (xs ys : List ℕ) (k : ℕ) → k ≡ min (length xs) (length ys) → common_length xs ys ≡ k + common_length (drop k xs) (drop k ys) → k ≡ common_length xs ys
ends_at xs ys k is so_far = grind (arith, drop_all, none_left)

-- ---- the place
