-- Blocks of bytes that are tested at once.
use Rattle.std.specs.Prelude.{slice_index, IsTrue, nat_eq}
use Rattle.std.proofs.Common.{◌≡◌, ℕ, ◌+◌, ◌-◌, ◌^◌, ◌%◌, ◌<◌, ◌≤◌, Bool, cond, leb, List, [], ◌∷◌, map, length, take, drop, replicate, refl, sym, ap, ◌∙◌, arith, w8, eqb-true, leb-false, inl, inr, subst}
use Rattle.std.proofs.lemmas.Simd.{tops_compared, mask_l-mod, none_from_empty_mask}
use Rattle.std.proofs.lemmas.Bool.{cases_lt}
use Rattle.std.proofs.lemmas.List.{length-map, length-take-le, length-drop, get_or_past}
use lib.Lanes.{zip2, mask_l, top}
use Rattle.wsn_text.specs.Utf8.{IsText}
use Rattle.wsn_text.proofs.Ascii.{ascii_text, each_below}

-- Comparing one value with each lane.
zip2-replicate : (t : ℕ → ℕ → Bool) (y : ℕ) (xs : List ℕ) → zip2 t (replicate (length xs) y) xs ≡ map (t y) xs
zip2-replicate t y [] = refl
zip2-replicate t y (x ∷ xs) = ap (λ (bs : List Bool). t y x ∷ bs) (zip2-replicate t y xs)

-- If the mask of a block's lanes from 128 on is empty, each of its bytes is ASCII.
pub block_below : (bytes : List ℕ) (at n : ℕ) → at + n ≤ length bytes → n ≤ 64 → IsTrue (nat_eq (mask_l (map (top 7) (zip2 (λ (a b : ℕ). cond (leb a b) 255 0) (replicate n 128) (take n (drop at bytes)))) % 2 ^ 64) 0) → (i : ℕ) → at ≤ i → i < at + n → slice_index bytes i < 128
block_below bytes at n fits few low i from below =
    let xs = take n (drop at bytes) in
    let size : length xs ≡ n = length-take-le n (drop at bytes) (omega (arith, length-drop at bytes)) in
    let lanes : map (top 7) (zip2 (λ (a b : ℕ). cond (leb a b) 255 0) (replicate n 128) xs) ≡ map (leb 128) xs =
    tops_compared w8 leb (replicate n 128) xs ∙ ap (λ (m : ℕ). zip2 leb (replicate m 128) xs) (sym size) ∙ zip2-replicate leb 128 xs in
    let whole = mask_l-mod (map (leb 128) xs) 64 (omega (arith, length-map xs (leb 128), size)) in
    let empty : mask_l (map (leb 128) xs) ≡ 0 = sym whole ∙ ap (λ (bs : List Bool). mask_l bs % 2 ^ 64) (sym lanes) ∙ eqb-true _ _ low in
    leb-false _ _ (none_from_empty_mask (leb 128) bytes at n 0 fits empty i from below)

-- The bytes before `at` are ASCII, and so is a block of n that begins there or earlier and ends with the bytes.
pub text_of_blocks : (bytes : List ℕ) (at last n : ℕ) → ((i : ℕ) → i < at → slice_index bytes i < 128) → last ≤ at → ((i : ℕ) → last ≤ i → i < last + n → slice_index bytes i < 128) → length bytes ≡ last + n → IsText bytes
text_of_blocks bytes at last n before reached block size =
    ascii_text bytes (each_below bytes (λ i. elim (cases_lt i at) [
      | inl l ↦ before i l
      | inr g ↦ elim (cases_lt i (length bytes)) [
        | inl l ↦ block i (omega arith) (omega (arith, size))
        | inr past ↦ subst (λ (b : ℕ). b < 128) (sym (get_or_past bytes i 0 past)) (omega arith)
      ]
    ]))

-- The first n bytes are ASCII, and so are the last n, which are at least the others.
pub text_of_ends : (bytes : List ℕ) (n : ℕ) → n ≤ length bytes → length bytes ≤ n + n → ((i : ℕ) → 0 ≤ i → i < 0 + n → slice_index bytes i < 128) → ((i : ℕ) → length bytes - n ≤ i → i < length bytes - n + n → slice_index bytes i < 128) → IsText bytes
text_of_ends bytes n some few front back = text_of_blocks bytes n (length bytes - n) n (λ i below. front i (omega arith) (omega arith)) (omega arith) back (omega arith)
