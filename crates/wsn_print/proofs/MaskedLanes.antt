-- Bytes that are compared by vectors: a lane is 255 where the byte passes a test, and else 0.
use Rattle.std.proofs.Common.{◌≡◌, ℕ, ◌^◌, ◌%◌, Bool, true, false, cond, ◌||◌, List, [], ◌∷◌, map, length, refl, ap, ap₂, ◌∙◌, arith}
use Rattle.std.specs.Prelude.{replicate, suc}
use Rattle.std.proofs.lemmas.Simd.{zip2_splat, mask_l-mod}
use lib.Lanes.{zip2, mask_l, top}

-- the lane of a byte
abbrev pub lane : (ℕ → Bool) → ℕ → ℕ
lane p x = cond (p x) 255 0

pub map_same : (f g : ℕ → ℕ) → ((x : ℕ) → f x ≡ g x) → (xs : List ℕ) → map f xs ≡ map g xs
map_same f g same [] = refl
map_same f g same (x ∷ xs) = ap₂ (λ y ys. y ∷ ys) (same x) (map_same f g same xs)

-- the comparison of each byte with one number
pub compared : (f : ℕ → ℕ → ℕ) (p : ℕ → Bool) (xs : List ℕ) (n y : ℕ) → length xs ≡ n → ((x : ℕ) → f x y ≡ lane p x)
    → zip2 f xs (replicate n y) ≡ map (lane p) xs
compared f p xs n y long same = zip2_splat f xs n y long ∙ map_same (λ x. f x y) (lane p) same xs

either_lane : (f : ℕ → ℕ → ℕ) → f 0 0 ≡ 0 → f 0 255 ≡ 255 → f 255 0 ≡ 255 → f 255 255 ≡ 255 → (a b : Bool)
    → f (cond a 255 0) (cond b 255 0) ≡ cond (a || b) 255 0
either_lane f e00 e01 e10 e11 true true = e11
either_lane f e00 e01 e10 e11 true false = e10
either_lane f e00 e01 e10 e11 false true = e01
either_lane f e00 e01 e10 e11 false false = e00

either_lanes : (f : ℕ → ℕ → ℕ) → f 0 0 ≡ 0 → f 0 255 ≡ 255 → f 255 0 ≡ 255 → f 255 255 ≡ 255 → (p q : ℕ → Bool) (xs : List ℕ)
    → zip2 f (map (lane p) xs) (map (lane q) xs) ≡ map (lane (λ x. p x || q x)) xs
either_lanes f e00 e01 e10 e11 p q [] = refl
either_lanes f e00 e01 e10 e11 p q (x ∷ xs) =
    ap₂ (λ y ys. y ∷ ys) (either_lane f e00 e01 e10 e11 (p x) (q x)) (either_lanes f e00 e01 e10 e11 p q xs)

-- two such vectors, joined by their bits
pub either : (f : ℕ → ℕ → ℕ) → f 0 0 ≡ 0 → f 0 255 ≡ 255 → f 255 0 ≡ 255 → f 255 255 ≡ 255 → (p q : ℕ → Bool) (first second xs : List ℕ)
    → first ≡ map (lane p) xs → second ≡ map (lane q) xs → zip2 f first second ≡ map (lane (λ x. p x || q x)) xs
either f e00 e01 e10 e11 p q first second xs one two = ap₂ (zip2 f) one two ∙ either_lanes f e00 e01 e10 e11 p q xs

top_of_lane : (b : Bool) → top 7 (cond b 255 0) ≡ b
top_of_lane true = refl
top_of_lane false = refl

tops : (p : ℕ → Bool) (xs : List ℕ) → map (top 7) (map (lane p) xs) ≡ map p xs
tops p [] = refl
tops p (x ∷ xs) = ap₂ (λ b bs. b ∷ bs) (top_of_lane (p x)) (tops p xs)

length-tests : (p : ℕ → Bool) (xs : List ℕ) → length (map p xs) ≡ length xs
length-tests p [] = refl
length-tests p (x ∷ xs) = ap suc (length-tests p xs)

tests_same : (p q : ℕ → Bool) → ((x : ℕ) → p x ≡ q x) → (xs : List ℕ) → map p xs ≡ map q xs
tests_same p q same [] = refl
tests_same p q same (x ∷ xs) = ap₂ (λ b bs. b ∷ bs) (same x) (tests_same p q same xs)

-- the bits of such a vector, by another form of its test
pub bits_of : (p q : ℕ → Bool) (lanes xs : List ℕ) → length xs ≡ 16 → ((x : ℕ) → p x ≡ q x) → lanes ≡ map (lane p) xs
    → mask_l (map (top 7) lanes) % 2 ^ 64 ≡ mask_l (map q xs)
bits_of p q lanes xs long same is =
    ap (λ ls. mask_l (map (top 7) ls) % 2 ^ 64) is ∙ ap (λ bs. mask_l bs % 2 ^ 64) (tops p xs)
    ∙ mask_l-mod (map p xs) 64 (omega (arith, length-tests p xs, long)) ∙ ap mask_l (tests_same p q same xs)
