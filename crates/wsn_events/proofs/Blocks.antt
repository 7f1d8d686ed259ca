-- Blocks of bytes that are compared at once.
use Rattle.std.specs.Prelude.{IsTrue, nat_eq}
use Rattle.std.proofs.Common.{◌≡◌, ℕ, ◌+◌, ◌^◌, ◌%◌, ◌≤◌, ◌↔◌, Bool, not, cond, eqb, List, [], ◌∷◌, ◌++◌, map, length, take, drop, refl, sym, ap, ◌∙◌, arith, w8, eqb-true, eq-eqb}
use Rattle.std.proofs.lemmas.Simd.{tops_compared, mask_l-mod, length-zip2}
use Rattle.std.proofs.lemmas.List.{length-drop, take-take, take_all, take-append-drop}
use lib.Seq.{take-add}
use lib.Lanes.{zip2, mask_l, top}

-- No lane differs exactly if the lanes are the same.
same_of_mask : (xs ys : List ℕ) → length xs ≡ length ys → mask_l (zip2 (λ (a b : ℕ). not (eqb a b)) xs ys) ≡ 0 → xs ≡ ys
same_of_mask [] [] size none = refl
same_of_mask (x ∷ xs) (y ∷ ys) size none = go (eqb x y) refl none (λ none. same_of_mask xs ys (omega (arith, size)) none)
  where
    go : (t : Bool) → eqb x y ≡ t → mask_l (not t ∷ zip2 (λ (a b : ℕ). not (eqb a b)) xs ys) ≡ 0 → (mask_l (zip2 (λ (a b : ℕ). not (eqb a b)) xs ys) ≡ 0 → xs ≡ ys) → x ∷ xs ≡ y ∷ ys
    go t is fact rest = grind (arith, eqb-true)
same_of_mask _ _ size none = absurd (omega (arith, size))

mask_of_same : (xs : List ℕ) → mask_l (zip2 (λ (a b : ℕ). not (eqb a b)) xs xs) ≡ 0
mask_of_same [] = refl
mask_of_same (x ∷ xs) =
    ap (λ (t : Bool). mask_l (not t ∷ zip2 (λ (a b : ℕ). not (eqb a b)) xs xs)) (eq-eqb x x refl) ∙ omega (arith, mask_of_same xs)

-- The same of what `simd_ne` and `to_bitmask` make of two blocks of n bytes.
pub same_blocks : (n : ℕ) (xs ys : List ℕ) → n ≤ 64 → length xs ≡ n → length ys ≡ n →
    IsTrue (nat_eq (mask_l (map (top 7) (zip2 (λ (a b : ℕ). cond (not (eqb a b)) 255 0) xs ys)) % 2 ^ 64) 0) ↔ (xs ≡ ys)
same_blocks n xs ys few size others =
    let differ : ℕ → ℕ → Bool = λ a b. not (eqb a b) in
    let mask : mask_l (map (top 7) (zip2 (λ (a b : ℕ). cond (not (eqb a b)) 255 0) xs ys)) % 2 ^ 64 ≡ mask_l (zip2 (λ (a b : ℕ). not (eqb a b)) xs ys) =
    ap (λ (bs : List Bool). mask_l bs % 2 ^ 64) (tops_compared w8 (λ (a b : ℕ). not (eqb a b)) xs ys)
    ∙ mask_l-mod (zip2 (λ (a b : ℕ). not (eqb a b)) xs ys) 64 (omega (arith, length-zip2 (λ (a b : ℕ). not (eqb a b)) xs ys (size ∙ sym others), size, few)) in (
      λ none. same_of_mask xs ys (size ∙ sym others) (sym mask ∙ eqb-true _ _ none),
      λ same. eq-eqb _ _ (mask ∙ ap (λ (zs : List ℕ). mask_l (zip2 (λ (a b : ℕ). not (eqb a b)) xs zs)) (sym same) ∙ mask_of_same xs),
    )

-- A longer prefix is the same, by a block of n bytes.
pub same_further : (n at : ℕ) (xs ys : List ℕ) → take at xs ≡ take at ys → take n (drop at xs) ≡ take n (drop at ys) → take (at + n) xs ≡ take (at + n) ys
same_further n at xs ys front block =
    take-add at n xs ∙ ap (λ (bs : List ℕ). bs ++ take n (drop at xs)) front ∙ ap (λ (bs : List ℕ). take at ys ++ bs) block ∙ sym (take-add at n ys)

-- Bytes are the same if a prefix is, and a block of n bytes that begins there or earlier and ends with them.
pub same_to_end : (n at last : ℕ) (xs ys : List ℕ) → length xs ≡ length ys → length xs ≡ last + n → last ≤ at → take at xs ≡ take at ys → take n (drop last xs) ≡ take n (drop last ys) → xs ≡ ys
same_to_end n at last xs ys both size reached front block =
    let start : take last xs ≡ take last ys = sym (take-take last at xs reached) ∙ ap (λ (bs : List ℕ). take last bs) front ∙ take-take last at ys reached in
    let end : drop last xs ≡ drop last ys =
    sym (take_all n (drop last xs) (omega (arith, length-drop last xs, size))) ∙ block ∙ take_all n (drop last ys) (omega (arith, length-drop last ys, size, both)) in
    sym (take-append-drop last xs) ∙ ap (λ (bs : List ℕ). bs ++ drop last xs) start ∙ ap (λ (bs : List ℕ). take last ys ++ bs) end ∙ take-append-drop last ys
