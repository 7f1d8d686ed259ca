-- Blocks of digits that are decoded at once, lane by lane.
use Rattle.std.proofs.Common.{◌≡◌, ℕ, zero, suc, ◌+◌, ◌-◌, ◌*◌, ◌^◌, ◌%◌, ◌<◌, ◌≤◌, ◌&&◌, ◌++◌, Bool, true, false, cond, leb, ltb, eqb, List, [], ◌∷◌, map, length, take, drop, get_or, replicate, slice_index, bit_or, Option, Some, None, is_some, Ok, refl, sym, ap, ◌∙◌, subst, inl, inr, arith, w8, Fits}
use Rattle.std.specs.Prelude.{MatchBool, MatchOption, nat_eq}
use Rattle.std.proofs.lemmas.Bool.{cases_lt, and_parts, leb-true, leb-false, eqb-true, eqb-false}
use Rattle.std.proofs.lemmas.List.{get_or-map, get_or_append_left, get_or-append-add, set-get_or}
use Rattle.std.proofs.lemmas.Nat.{or_lt, le_or_l, le_or_r}
use Rattle.std.proofs.lemmas.Simd.{Each1-get_or, length-chunk, get_or-chunk, get_or-zip2, get_or-put_chunk_at, length-zip2, get_or-replicate, mask_l-mod, tops_compared}
use lib.Lanes.{Each1, zip2, chunk, put_chunk, pick_l, sel_l, mask_l, top}
use Rattle.hex.specs.Hex.{decode_of, decode_pairs, hex_digit_value, is_hex_digit, pair_value}
use Rattle.hex.proofs.Pairs.{prepend, decode_start, decode_step, decode_done}
use Rattle.hex.proofs.HexLemmas.{decode_of-ok}
use Rattle.wsn_capture.specs.LineEntries.{HasNoHex}
use Rattle.wsn_capture.proofs.PairedDigits.{pair_of}

-- The value of a digit, or 16 or more for a byte that isn't a digit.
abbrev pub IsValueOf : ℕ → ℕ → Type 0
IsValueOf digit value = MatchOption (hex_digit_value digit) (16 ≤ value) (λ v. value ≡ v)

-- ---- one lane

abbrev add : ℕ → ℕ → ℕ
add a b = (a + b) % 2 ^ 8

abbrev sub : ℕ → ℕ → ℕ
sub a b = (a + (2 ^ 8 - b)) % 2 ^ 8

abbrev below_mask : ℕ → ℕ → ℕ
below_mask a b = cond (ltb a b) 255 0

abbrev least : ℕ → ℕ → ℕ
least a b = cond (top 7 (below_mask a b)) a b

abbrev saturating_sub : ℕ → ℕ → ℕ
saturating_sub a b = sub (cond (top 7 (below_mask a b)) b a) b

-- what is computed of one byte
abbrev lane : ℕ → ℕ
lane c = least (sub (saturating_sub (add c 198) 6) 240) (add (least (sub (bit_or c 32) 97) 245) 10)

abbrev agrees : Option ℕ → ℕ → Bool
agrees None value = leb 16 value
agrees (Some v) value = eqb value v

agrees_is : (o : Option ℕ) (value : ℕ) → agrees o value ≡ true → MatchOption o (16 ≤ value) (λ v. value ≡ v)
agrees_is o value h = grind (arith, leb-true, eqb-true)

abbrev agree_below : ℕ → Bool
agree_below zero = true
agree_below (suc n) = agrees (hex_digit_value n) (lane n) && agree_below n

agrees_at : (n c : ℕ) → agree_below n ≡ true → c < n → agrees (hex_digit_value c) (lane c) ≡ true
agrees_at zero c h lt = absurd (omega arith)
agrees_at (suc n) c h lt =
    let parts = and_parts (agrees (hex_digit_value n) (lane n)) (agree_below n) h in
    elim (cases_lt c n) [
      | inl below ↦ agrees_at n c parts.1 below
      | inr above ↦ let e : c ≡ n = omega arith in subst (λ (k : ℕ). agrees (hex_digit_value k) (lane k) ≡ true) (sym e) parts.0
    ]

one_lane : (c : ℕ) → c < 256 → IsValueOf c (lane c)
one_lane c lt = agrees_is (hex_digit_value c) (lane c) (agrees_at 256 c refl lt)

-- ---- all lanes

abbrev least_l : List ℕ → List ℕ → List ℕ
least_l xs ys = sel_l (map (top 7) (zip2 below_mask xs ys)) xs ys

abbrev saturating_sub_l : List ℕ → List ℕ → List ℕ
saturating_sub_l xs ys = zip2 sub (sel_l (map (top 7) (zip2 below_mask xs ys)) ys xs) ys

abbrev values_l : ℕ → List ℕ → List ℕ
values_l n cs =
    least_l (zip2 sub (saturating_sub_l (zip2 add cs (replicate n 198)) (replicate n 6)) (replicate n 240))
    (zip2 add (least_l (zip2 sub (zip2 bit_or cs (replicate n 32)) (replicate n 97)) (replicate n 245)) (replicate n 10))

lanes : (cs : List ℕ) → values_l (length cs) cs ≡ map lane cs
lanes [] = refl
lanes (c ∷ cs) = ap (λ (vs : List ℕ). lane c ∷ vs) (lanes cs)

pub values_are : (cs : List ℕ) → length cs ≡ 32 → Each1 (Fits w8) cs → (i : ℕ) → i < 32 → IsValueOf (slice_index cs i) (slice_index (values_l 32 cs) i)
values_are cs size fits i lt =
    let within : i < length cs = omega (arith, size) in
    let e : slice_index (values_l 32 cs) i ≡ lane (slice_index cs i) =
    ap (λ (n : ℕ). slice_index (values_l n cs) i) (sym size) ∙ ap (λ (vs : List ℕ). slice_index vs i) (lanes cs) ∙ get_or-map lane cs i 0 0 within in
    subst (IsValueOf (slice_index cs i)) (sym e) (one_lane (slice_index cs i) (Each1-get_or (Fits w8) cs i 0 within fits).fits)

-- ---- every other digit

abbrev every_other : ℕ → ℕ → List ℕ
every_other a zero = []
every_other a (suc n) = a ∷ every_other (a + 2) n

picked_at : (xs : List ℕ) (n a i : ℕ) → i < n → slice_index (pick_l 0 xs (every_other a n)) i ≡ slice_index xs (a + 2 * i)
picked_at xs zero a i lt = absurd (omega arith)
picked_at xs (suc n) a zero lt = ap (slice_index xs) (omega arith)
picked_at xs (suc n) a (suc i) lt = picked_at xs n (a + 2) i (omega arith) ∙ ap (slice_index xs) (omega arith)

joined_at : (digits : List ℕ) (k j : ℕ) → k + 64 ≤ length digits → j < 64 → slice_index (chunk k 32 digits ++ chunk (k + 32) 32 digits) j ≡ slice_index digits (k + j)
joined_at digits k j fits lt =
    let size = length-chunk k 32 digits (omega arith) in
    elim (cases_lt j 32) [
      | inl l ↦ get_or_append_left (chunk k 32 digits) (chunk (k + 32) 32 digits) 0 j (omega (arith, size)) ∙ get_or-chunk k 32 digits j 0 l
      | inr g ↦
          let at : j ≡ length (chunk k 32 digits) + (j - 32) = omega (arith, size) in
          ap (λ (n : ℕ). slice_index (chunk k 32 digits ++ chunk (k + 32) 32 digits) n) at
          ∙ get_or-append-add (chunk k 32 digits) (chunk (k + 32) 32 digits) (j - 32) 0
          ∙ get_or-chunk (k + 32) 32 digits (j - 32) 0 (omega arith) ∙ ap (slice_index digits) (omega arith)
    ]

-- the lane of a digit, where `a` is 0 for the high digits and 1 for the low ones
digit_at : (digits : List ℕ) (k a i : ℕ) → k + 64 ≤ length digits → a < 2 → i < 32
    → slice_index (pick_l 0 (chunk k 32 digits ++ chunk (k + 32) 32 digits) (every_other a 32)) i ≡ slice_index digits (k + (a + 2 * i))
digit_at digits k a i fits one lt = picked_at _ 32 a i lt ∙ joined_at digits k (a + 2 * i) fits (omega arith)

-- ---- pairs

by_options : (c d k h l : ℕ) (o p : Option ℕ) → MatchOption o (16 ≤ h) (λ v. h ≡ v) → MatchOption p (16 ≤ l) (λ v. l ≡ v) → h < 16 → l < 16
    → pair_of c d k o p ≡ Ok (add (h * 16 % 2 ^ 8) l)
by_options c d k h l o p is_h is_l small_h small_l = grind arith

pair_decoded : (c d k h l : ℕ) → IsValueOf c h → IsValueOf d l → h < 16 → l < 16 → pair_value c d k ≡ Ok (add (h * 16 % 2 ^ 8) l)
pair_decoded c d k h l is_h is_l small_h small_l = by_options c d k h l (hex_digit_value c) (hex_digit_value d) is_h is_l small_h small_l

pub small_value : (c v : ℕ) → hex_digit_value c ≡ Some v → v < 16
small_value c v h = grind (arith)

bad_option : (o : Option ℕ) (h : ℕ) → ((v : ℕ) → o ≡ Some v → v < 16) → MatchOption o (16 ≤ h) (λ v. h ≡ v) → 16 ≤ h → is_some o ≡ false
bad_option o h small is big = grind arith

bad_digit : (c h : ℕ) → IsValueOf c h → 16 ≤ h → is_hex_digit c ≡ false
bad_digit c h is big = bad_option (hex_digit_value c) h (small_value c) is big

no_hex_at : (digits : List ℕ) (j : ℕ) → j < length digits → is_hex_digit (slice_index digits j) ≡ false → HasNoHex digits
no_hex_at digits j lt bad bytes hex =
    let both : true ≡ false = sym ((decode_of-ok digits bytes hex.1).1 j 0 lt) ∙ bad in
    cc

-- ---- the mask of the lanes that are no digits

no_bit : (ms : List Bool) (i : ℕ) → mask_l ms ≡ 0 → get_or ms i false ≡ false
no_bit (true ∷ ms) i none = absurd (omega arith)
no_bit (false ∷ ms) (suc i) none = no_bit ms i (omega arith)
no_bit _ _ none = refl

some_bit : (ms : List Bool) → (mask_l ms ≡ 0 → ⊥) → (i : ℕ) × (i < length ms) × (get_or ms i false ≡ true)
some_bit [] some = absurd (some refl)
some_bit (true ∷ ms) some = (0, omega arith, refl)
some_bit (false ∷ ms) some =
    let r = some_bit ms (λ none. some (omega (arith, none))) in
    (suc r.0, omega (arith, r.1), r.2)

-- ---- a block

module _ (high low : List ℕ) (size_h : length high ≡ 32) (size_l : length low ≡ 32) where
  abbrev too_large : List Bool
  too_large = zip2 leb (replicate 32 16) (zip2 bit_or high low)

  abbrev bytes_l : List ℕ
  bytes_l = zip2 add (zip2 (λ (a b : ℕ). a * b % 2 ^ 8) high (replicate 32 16)) low

  size_or : length (zip2 bit_or high low) ≡ 32
  size_or = length-zip2 bit_or high low (size_h ∙ sym size_l) ∙ size_h

  size_mask : length too_large ≡ 32
  size_mask = length-zip2 leb (replicate 32 16) (zip2 bit_or high low) (sym size_or)

  size_shifted : length (zip2 (λ (a b : ℕ). a * b % 2 ^ 8) high (replicate 32 16)) ≡ 32
  size_shifted = length-zip2 (λ (a b : ℕ). a * b % 2 ^ 8) high (replicate 32 16) size_h ∙ size_h

  pub size_bytes : length bytes_l ≡ 32
  size_bytes = length-zip2 add _ low (size_shifted ∙ sym size_l) ∙ size_shifted

  large_at : (i : ℕ) → i < 32 → get_or too_large i false ≡ leb 16 (bit_or (slice_index high i) (slice_index low i))
  large_at i lt =
      get_or-zip2 leb (replicate 32 16) (zip2 bit_or high low) i 0 0 false lt (omega (arith, size_or))
      ∙ ap (λ (n : ℕ). leb n (slice_index (zip2 bit_or high low) i)) (get_or-replicate 32 i 16 0 lt)
      ∙ ap (leb 16) (get_or-zip2 bit_or high low i 0 0 0 (omega (arith, size_h)) (omega (arith, size_l)))

  byte_at : (i : ℕ) → i < 32 → slice_index bytes_l i ≡ add (slice_index high i * 16 % 2 ^ 8) (slice_index low i)
  byte_at i lt =
      get_or-zip2 add _ low i 0 0 0 (omega (arith, size_shifted)) (omega (arith, size_l))
      ∙ ap (λ (n : ℕ). add n (slice_index low i))
      (get_or-zip2 (λ (a b : ℕ). a * b % 2 ^ 8) high (replicate 32 16) i 0 0 0 (omega (arith, size_h)) lt
      ∙ ap (λ (n : ℕ). slice_index high i * n % 2 ^ 8) (get_or-replicate 32 i 16 0 lt))

  abbrev are_large : ℕ
  are_large = mask_l (map (top 7) (zip2 (λ (a b : ℕ). cond (leb a b) 255 0) (replicate 32 16) (zip2 bit_or high low))) % 2 ^ 64

  mask_is : are_large ≡ mask_l too_large
  mask_is =
      ap (λ (ms : List Bool). mask_l ms % 2 ^ 64) (tops_compared w8 leb (replicate 32 16) (zip2 bit_or high low))
      ∙ mask_l-mod too_large 64 (omega (arith, size_mask))

  module _ (digits bytes : List ℕ) (at : ℕ) (pairs : length digits ≡ 2 * length bytes) (room : at + 32 ≤ length bytes)
      (is_high : (i : ℕ) → i < 32 → IsValueOf (slice_index (pick_l 0 (chunk (2 * at) 32 digits ++ chunk (2 * at + 32) 32 digits) (every_other 0 32)) i) (slice_index high i))
      (is_low : (i : ℕ) → i < 32 → IsValueOf (slice_index (pick_l 0 (chunk (2 * at) 32 digits ++ chunk (2 * at + 32) 32 digits) (every_other 1 32)) i) (slice_index low i)) where
    abbrev IsDecoded : ℕ → Type 0
    IsDecoded i = pair_value (slice_index digits (2 * i)) (slice_index digits (2 * i + 1)) (2 * i) ≡ Ok (slice_index (put_chunk at bytes bytes_l) i)

    high_at : (i : ℕ) → i < 32 → IsValueOf (slice_index digits (2 * (at + i))) (slice_index high i)
    high_at i lt =
        let e = digit_at digits (2 * at) 0 i (omega arith) (omega arith) lt ∙ ap (slice_index digits) (omega arith) in
        subst (λ (c : ℕ). IsValueOf c (slice_index high i)) e (is_high i lt)

    low_at : (i : ℕ) → i < 32 → IsValueOf (slice_index digits (2 * (at + i) + 1)) (slice_index low i)
    low_at i lt =
        let e = digit_at digits (2 * at) 1 i (omega arith) (omega arith) lt ∙ ap (slice_index digits) (omega arith) in
        subst (λ (c : ℕ). IsValueOf c (slice_index low i)) e (is_low i lt)

    lane_decoded : mask_l too_large ≡ 0 → (i : ℕ) → i < 32 → IsDecoded (at + i)
    lane_decoded none i lt =
        let below = leb-false _ _ (sym (large_at i lt) ∙ no_bit too_large i none) in
        let h : slice_index high i < 16 = omega (arith, below, le_or_l (slice_index high i) (slice_index low i)) in
        let l : slice_index low i < 16 = omega (arith, below, le_or_r (slice_index high i) (slice_index low i)) in
        pair_decoded (slice_index digits (2 * (at + i))) (slice_index digits (2 * (at + i) + 1)) (2 * (at + i)) (slice_index high i) (slice_index low i) (high_at i lt) (low_at i lt) h l
        ∙ ap Ok (sym (get_or-put_chunk_at at bytes bytes_l i 0 (omega (arith, size_bytes)) (omega (arith, size_bytes)) ∙ byte_at i lt))

    all_decoded : mask_l too_large ≡ 0 → (i : ℕ) → at ≤ i → i < at + 32 → IsDecoded i
    all_decoded none i from below =
        let e : at + (i - at) ≡ i = omega arith in
        subst IsDecoded e (lane_decoded none (i - at) (omega arith))

    bad_lane : (i : ℕ) → i < 32 → 16 ≤ bit_or (slice_index high i) (slice_index low i) → HasNoHex digits
    bad_lane i lt big = elim (cases_lt (slice_index high i) 16) [
      | inr h ↦ no_hex_at digits (2 * (at + i)) (omega arith) (bad_digit (slice_index digits (2 * (at + i))) (slice_index high i) (high_at i lt) h)
      | inl h ↦ elim (cases_lt (slice_index low i) 16) [
        | inr l ↦ no_hex_at digits (2 * (at + i) + 1) (omega arith) (bad_digit (slice_index digits (2 * (at + i) + 1)) (slice_index low i) (low_at i lt) l)
        | inl l ↦ absurd (omega (arith, or_lt 4 (slice_index high i) (slice_index low i) h l))
      ]
    ]

    no_hex : (mask_l too_large ≡ 0 → ⊥) → HasNoHex digits
    no_hex some =
        let r = some_bit too_large some in
        let lt : r.0 < 32 = omega (arith, r.1, size_mask) in
        bad_lane r.0 lt (leb-true _ _ (sym (large_at r.0 lt) ∙ r.2))

    by_mask : (b : Bool) → nat_eq are_large 0 ≡ b → MatchBool b ((i : ℕ) → at ≤ i → i < at + 32 → IsDecoded i) (HasNoHex digits)
    by_mask true e = all_decoded (sym mask_is ∙ eqb-true _ _ e)
    by_mask false e = no_hex (λ none. eqb-false _ _ e (mask_is ∙ none))

    pub block_decoded : MatchBool (nat_eq are_large 0) ((i : ℕ) → at ≤ i → i < at + 32 → IsDecoded i) (HasNoHex digits)
    block_decoded = by_mask (nat_eq are_large 0) refl

-- ---- block after block

-- The bytes before `at` are decoded.
abbrev pub AreBefore : List ℕ → List ℕ → ℕ → Type 0
AreBefore digits bytes at = (i : ℕ) → i < at → pair_value (slice_index digits (2 * i)) (slice_index digits (2 * i + 1)) (2 * i) ≡ Ok (slice_index bytes i)

pub block_more : (digits before bytes : List ℕ) (at next : ℕ) → AreBefore digits before at
    → ((i : ℕ) → i < next → slice_index bytes i ≡ slice_index before i)
    → ((i : ℕ) → next ≤ i → i < next + 32 → pair_value (slice_index digits (2 * i)) (slice_index digits (2 * i + 1)) (2 * i) ≡ Ok (slice_index bytes i))
    → next ≤ at → AreBefore digits bytes (next + 32)
block_more digits before bytes at next so_far same block le i lt = elim (cases_lt i next) [
  | inl l ↦ so_far i (omega arith) ∙ ap Ok (sym (same i l))
  | inr g ↦ block i g lt
]

pub all_pairs : (digits bytes : List ℕ) → length digits ≡ 2 * length bytes → AreBefore digits bytes (length bytes) → decode_of digits ≡ Ok bytes
all_pairs digits bytes size pairs =
    even ∙ decode_done digits bytes (length bytes) (omega arith) (omega arith) (so_far (length bytes) (omega arith))
  where
    even : decode_of digits ≡ decode_pairs 0 digits
    even = grind (arith)

    IsSoFar : ℕ → List ℕ → Type 0
    IsSoFar n bs = decode_pairs 0 digits ≡ prepend (take n bs) (decode_pairs (2 * n) (drop (2 * n) digits))

    so_far : (n : ℕ) → n ≤ length bytes → IsSoFar n bytes
    so_far zero le = decode_start digits bytes
    so_far (suc n) le =
        let one_more = decode_step digits bytes n (slice_index bytes n) (omega arith) (omega arith) (pairs n (omega arith)) (so_far n (omega arith)) in
        let e : n + 1 ≡ suc n = omega arith in
        subst (λ (k : ℕ). IsSoFar k bytes) e (subst (IsSoFar (n + 1)) (set-get_or bytes n 0) one_more)

-- The last block ends with the bytes.
pub last_block : (all : Bool) (digits before bytes : List ℕ) (at last : ℕ) → length digits ≡ 2 * length bytes → length bytes ≡ last + 32 → last ≤ at → AreBefore digits before at
    → ((i : ℕ) → i < last → slice_index bytes i ≡ slice_index before i)
    → MatchBool all ((i : ℕ) → last ≤ i → i < last + 32 → pair_value (slice_index digits (2 * i)) (slice_index digits (2 * i + 1)) (2 * i) ≡ Ok (slice_index bytes i)) (HasNoHex digits)
    → MatchBool all (decode_of digits ≡ Ok bytes) (HasNoHex digits)
last_block true digits before bytes at last size ends reached so_far same block =
    all_pairs digits bytes size (subst (AreBefore digits bytes) (sym ends) (block_more digits before bytes at last so_far same block reached))
last_block false digits before bytes at last size ends reached so_far same none = none
