-- The bytes at the start of a text with which no hidden character begins, by vectors.
use Rattle.std.proofs.Common.{◌≡◌, ◌≢◌, ℕ, zero, suc, ◌+◌, ◌-◌, ◌*◌, ◌/◌, ◌%◌, ◌^◌, ◌<◌, ◌≤◌, Bool, true, false, cond, List, [], ◌∷◌, ◌++◌, map, length, take, drop, get_or, replicate, bit_and, refl, sym, ap, ap₂, ◌∙◌, subst, inl, inr, arith, w8, Fits, get_or-take, length-take-le}
use Rattle.std.specs.List.{prefix_len, range_with_len}
use Rattle.std.proofs.lemmas.List.FromFn.{get_or-map-range_with_len}
use Rattle.std.proofs.Math.Seq.{get_or-drop}
use Rattle.std.proofs.lemmas.Bool.{cases_lt}
use Rattle.std.proofs.lemmas.Bool.Decides.{nat_tests}
use Rattle.std.proofs.lemmas.List.{ext_get_or, get_or-map, get_or_past, length-map, take_all}
use Rattle.std.proofs.lemmas.Nat.{and_le_r, and_mask}
use Rattle.std.proofs.lemmas.Simd.{Each1-all, Each1-weaker, Each1-zip2, Each2-splat, Each1-get_or, below_from_Fits, length-zip2, zip2_splat, get_or-zip2, swz_l, SwzOk, SwzOk-from_below, length-swz_l, get_or-swz_l_below, trailing_mask_l}
use lib.Count.{count_trailing_zeros}
use lib.Lanes.{zip2, Each1, pick_l, mask_l}
use Rattle.wsn_print.specs.Runs.{first_high, first_low, second_low, class_of, may_hide, is_plain, IsPlainUpTo}
use Rattle.wsn_print.proofs.MaskedLanes.{map_same}

-- ---- a table

abbrev pub half : ℕ → ℕ → ℕ
half a b = a / 2 ^ b

positions_fit : (f : ℕ → ℕ → ℕ) (k : ℕ) (v : List ℕ) → length v ≡ 16 → Each1 (λ a. f a k < 16) v → SwzOk w8 16 16 0 (zip2 f v (replicate 16 k))
positions_fit f k v long few =
    SwzOk-from_below w8 16 1 16 0 (zip2 f v (replicate 16 k)) refl (omega (arith, length-zip2 f v (replicate 16 k) long, long))
    (Each1-zip2 f (λ j. j < 16) v (replicate 16 k) (Each2-splat (λ a b. f a b < 16) v 16 k few))

pub first_halves_fit : (v : List ℕ) → length v ≡ 16 → Each1 (Fits w8) v → SwzOk w8 16 16 0 (zip2 half v (replicate 16 4))
first_halves_fit v long fits =
    positions_fit half 4 v long (Each1-weaker (λ a. a < 256) (λ a. a / 16 < 16) (λ a small. omega arith) v (below_from_Fits w8 v fits))

pub second_halves_fit : (v : List ℕ) → length v ≡ 16 → SwzOk w8 16 16 0 (zip2 bit_and v (replicate 16 15))
second_halves_fit v long = positions_fit bit_and 15 v long (Each1-all (λ a. bit_and a 15 < 16) (λ a. omega (arith, and_le_r a 15)) v)

-- A table is read at a position below 16 for each byte.
looked_up : (table : List ℕ) (g : ℕ → ℕ) (v js : List ℕ) → length v ≡ 16 → Each1 (Fits w8) v → js ≡ map g v → ((x : ℕ) → x < 256 → g x < 16)
    → swz_l w8 16 table 0 js ≡ map (λ x. get_or table (g x) 0) v
looked_up table g v js long fits is few =
    let size : length js ≡ 16 = ap length is ∙ length-map v g ∙ long in
    ext_get_or 0 _ _ (length-swz_l w8 16 table 0 js ∙ size ∙ sym (length-map v (λ x. get_or table (g x) 0) ∙ long)) (λ i within.
    let below : i < 16 = omega (arith, length-swz_l w8 16 table 0 js, size) in
    let here : i < length v = omega (arith, long) in
    let position : get_or js i 0 ≡ g (get_or v i 0) = ap (λ l. get_or l i 0) is ∙ get_or-map g v i 0 0 here in
    let small : get_or v i 0 < 256 = (Each1-get_or (Fits w8) v i 0 here fits).fits in
    let least : get_or js i 0 < 16 = omega (arith, position, few (get_or v i 0) small) in
    let index : 16 * ((0 + i) / 16) + get_or js i 0 ≡ g (get_or v i 0) = omega (arith, position) in
    get_or-swz_l_below w8 16 table 0 js i (omega (arith, size)) least ∙ ap (λ k. get_or table k 0) index
    ∙ sym (get_or-map (λ x. get_or table (g x) 0) v i 0 0 here))

pub by_first_half : (table v : List ℕ) → length v ≡ 16 → Each1 (Fits w8) v → swz_l w8 16 table 0 (zip2 half v (replicate 16 4)) ≡ map (λ x. get_or table (x / 16) 0) v
by_first_half table v long fits = looked_up table (λ x. x / 16) v _ long fits (zip2_splat half v 16 4 long) (λ x small. omega arith)

pub by_second_half : (table v : List ℕ) → length v ≡ 16 → Each1 (Fits w8) v → swz_l w8 16 table 0 (zip2 bit_and v (replicate 16 15)) ≡ map (λ x. get_or table (x % 16) 0) v
by_second_half table v long fits =
    looked_up table (λ x. bit_and x 15) v _ long fits (zip2_splat bit_and v 16 15 long) (λ x small. omega (arith, and_le_r x 15))
    ∙ map_same (λ x. get_or table (bit_and x 15) 0) (λ x. get_or table (x % 16) 0) (λ x. ap (λ k. get_or table k 0) (and_mask x 4)) v

-- ---- classes

pub classes_joined : (v w : List ℕ) → zip2 bit_and (zip2 bit_and (map first_high v) (map first_low v)) (map second_low w) ≡ zip2 class_of v w
classes_joined [] w = refl
classes_joined (x ∷ v) [] = refl
classes_joined (x ∷ v) (y ∷ w) = ap (λ (classes : List ℕ). class_of x y ∷ classes) (classes_joined v w)

passes_before : (p : ℕ → Bool) (xs : List ℕ) (i : ℕ) → i < prefix_len p xs → p (get_or xs i 0) ≡ true
passes_before p [] i within = absurd (omega (arith, within))
passes_before p (x ∷ xs) i within = by_first p x xs i (p x) refl (λ j fewer. passes_before p xs j fewer) within
  where
    by_first : (p : ℕ → Bool) (x : ℕ) (xs : List ℕ) (i : ℕ) (passed : Bool) → p x ≡ passed → ((j : ℕ) → j < prefix_len p xs → p (get_or xs j 0) ≡ true)
        → i < cond passed (1 + prefix_len p xs) 0 → p (get_or (x ∷ xs) i 0) ≡ true
    by_first p x xs zero true is later within = is
    by_first p x xs (suc i) true is later within = later i (omega (arith, within))
    by_first p x xs i false is later within = absurd (omega (arith, within))

fails_after : (p : ℕ → Bool) (xs : List ℕ) → prefix_len p xs < length xs → p (get_or xs (prefix_len p xs) 0) ≡ false
fails_after p [] within = absurd (omega (arith, within))
fails_after p (x ∷ xs) within = by_first p x xs (p x) refl (λ fewer. fails_after p xs fewer) within
  where
    by_first : (p : ℕ → Bool) (x : ℕ) (xs : List ℕ) (passed : Bool) → p x ≡ passed → (prefix_len p xs < length xs → p (get_or xs (prefix_len p xs) 0) ≡ false)
        → cond passed (1 + prefix_len p xs) 0 < suc (length xs) → p (get_or (x ∷ xs) (cond passed (1 + prefix_len p xs) 0) 0) ≡ false
    by_first p x xs true is later within =
        let next : 1 + prefix_len p xs ≡ suc (prefix_len p xs) = omega arith in
        ap (λ (n : ℕ). p (get_or (x ∷ xs) n 0)) next ∙ later (omega (arith, within))
    by_first p x xs false is later within = is

no_class : (n : ℕ) → is_plain n ≡ true → n ≡ 0
no_class n plain = grind (arith, nat_tests, plain)

some_class : (n : ℕ) → is_plain n ≡ false → n ≡ 0 → ⊥
some_class n plain none = grind (arith, nat_tests, plain, none)

class_here : (text next : List ℕ) (i : ℕ) → 16 ≤ length text → length next ≡ 16 → ((k : ℕ) → k < 16 → get_or next k 0 ≡ get_or text (suc k) 0) → i < 16
    → get_or (zip2 class_of (take 16 text) next) i 0 ≡ class_of (get_or text i 0) (get_or text (suc i) 0)
class_here text next i long size is below =
    get_or-zip2 class_of (take 16 text) next i 0 0 0 (omega (arith, length-take-le 16 text long)) (omega (arith, size))
    ∙ ap₂ class_of (get_or-take 16 text i 0 below) (is i below)

pub plain_until : (text next : List ℕ) (n : ℕ) → 16 ≤ length text → length next ≡ 16 → ((k : ℕ) → k < 16 → get_or next k 0 ≡ get_or text (suc k) 0) → n ≤ 16
    → n ≤ prefix_len is_plain (zip2 class_of (take 16 text) next) → IsPlainUpTo n text
plain_until text next n long size is few within i below =
    let plain = passes_before is_plain (zip2 class_of (take 16 text) next) i (omega (arith, within, below)) in
    sym (class_here text next i long size is (omega (arith, few, below))) ∙ no_class (get_or (zip2 class_of (take 16 text) next) i 0) plain

pub hidden_after : (text next : List ℕ) (n : ℕ) → 16 ≤ length text → length next ≡ 16 → ((k : ℕ) → k < 16 → get_or next k 0 ≡ get_or text (suc k) 0) → n < 16
    → n ≡ prefix_len is_plain (zip2 class_of (take 16 text) next) → class_of (get_or text n 0) (get_or text (suc n) 0) ≢ 0
hidden_after text next n long size is few n_is none =
    let classes : List ℕ = zip2 class_of (take 16 text) next in
    let count : length classes ≡ 16 = length-zip2 class_of (take 16 text) next (length-take-le 16 text long ∙ sym size) ∙ length-take-le 16 text long in
    let fails = fails_after is_plain classes (omega (arith, n_is, few, count)) in
    some_class (get_or classes n 0) (subst (λ (m : ℕ). is_plain (get_or classes m 0) ≡ false) (sym n_is) fails) (class_here text next n long size is few ∙ none)

pub classes_long : (text next : List ℕ) → 16 ≤ length text → length next ≡ 16 → length (zip2 class_of (take 16 text) next) ≡ 16
classes_long text next long size =
    length-zip2 class_of (take 16 text) next (length-take-le 16 text long ∙ sym size) ∙ length-take-le 16 text long

-- ---- the next bytes

pub next_within : (text : List ℕ) (i : ℕ) → i < 16 → get_or (take 16 (drop 1 text)) i 0 ≡ get_or text (suc i) 0
next_within [] i below = get_or-take 16 [] i 0 below
next_within (b ∷ rest) i below = get_or-take 16 rest i 0 below

none_after : (n k : ℕ) → ◌≡◌ {A = ℕ} (get_or (replicate n 0) k 0) 0
none_after zero k = refl
none_after (suc n) zero = refl
none_after (suc n) (suc k) = none_after n k

padded : (xs : List ℕ) (n k : ℕ) → get_or (xs ++ replicate n 0) k 0 ≡ get_or xs k 0
padded [] n k = none_after n k
padded (x ∷ xs) n zero = refl
padded (x ∷ xs) n (suc k) = padded xs n k

pub next_at_end : (text : List ℕ) (i : ℕ) → length text ≡ 16 → i < 16
    → get_or (pick_l 0 (take 16 text ++ replicate 16 0) (range_with_len 1 16)) i 0 ≡ get_or text (suc i) 0
next_at_end text i long below =
    let block : take 16 text ≡ text = take_all 16 text (omega (arith, long)) in
    get_or-map-range_with_len (λ k. get_or (take 16 text ++ replicate 16 0) k 0) 1 16 i (suc i) 0 below (omega arith)
    ∙ padded (take 16 text) 16 (suc i) ∙ ap (λ (xs : List ℕ). get_or xs (suc i) 0) block

-- A text that is put at the start of zeros.
same_byte : (block text : List ℕ) (n k : ℕ) → take n block ≡ text → drop n block ≡ drop n (replicate 16 0) → n ≡ length text → get_or block k 0 ≡ get_or text k 0
same_byte block text n k front rest size = elim (cases_lt k n) [
  | inl within ↦ sym (get_or-take n block k 0 within) ∙ ap (λ (xs : List ℕ). get_or xs k 0) front
  | inr past ↦
      let index : n + (k - n) ≡ k = omega arith in
      ap (λ (i : ℕ). get_or block i 0) (sym index) ∙ sym (get_or-drop n block (k - n) 0) ∙ ap (λ (xs : List ℕ). get_or xs (k - n) 0) rest
      ∙ get_or-drop n (replicate 16 0) (k - n) 0 ∙ none_after 16 (n + (k - n)) ∙ sym (get_or_past text k 0 (omega (arith, size, past)))
]

pub plain_in_text : (block text : List ℕ) (n found : ℕ) → take n block ≡ text → drop n block ≡ drop n (replicate 16 0) → n ≡ length text
    → IsPlainUpTo found block → IsPlainUpTo found text
plain_in_text block text n found front rest size plain i below =
    ap₂ class_of (sym (same_byte block text n i front rest size)) (sym (same_byte block text n (suc i) front rest size)) ∙ plain i below

-- ---- the first set bit

shorter : (p : ℕ → Bool) (xs : List ℕ) → prefix_len p xs ≤ length xs
shorter p [] = omega arith
shorter p (x ∷ xs) = by_first (p x) (prefix_len p xs) (length xs) (shorter p xs)
  where
    by_first : (passed : Bool) (m n : ℕ) → m ≤ n → cond passed (1 + m) 0 ≤ suc n
    by_first true m n less = omega (arith, less)
    by_first false m n less = omega arith

pub within_block : (text next : List ℕ) (n : ℕ) → 16 ≤ length text → length next ≡ 16 → n ≡ prefix_len is_plain (zip2 class_of (take 16 text) next) → n ≤ 16
within_block text next n long size is =
    omega (arith, is, shorter is_plain (zip2 class_of (take 16 text) next), classes_long text next long size)

pub first_bit : (text next : List ℕ) (starts : ℕ) → 16 ≤ length text → length next ≡ 16 → starts ≡ mask_l (map may_hide (zip2 class_of (take 16 text) next)) → starts ≢ 0
    → count_trailing_zeros 64 starts ≡ prefix_len is_plain (zip2 class_of (take 16 text) next)
first_bit text next starts long size is some =
    ap (count_trailing_zeros 64) is
    ∙ trailing_mask_l may_hide 64 (zip2 class_of (take 16 text) next) (omega (arith, classes_long text next long size)) (subst (λ (n : ℕ). 0 < n) is (omega (arith, some)))
