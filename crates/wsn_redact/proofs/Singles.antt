-- Bytes that are replaced by themselves: by blocks, in place, and before what is longer.
use Rattle.std.proofs.Common.{◌≡◌, ℕ, suc, ◌+◌, ◌-◌, ◌<◌, ◌≤◌, ◌^◌, ◌%◌, ◌&&◌, Bool, true, false, cond, leb, List, [], ◌∷◌, ◌++◌, map, length, take, drop, get_or, replicate, slice_index, slice_set, bit_and, bit_or, if◌then◌else◌, inl, inr, refl, sym, ap, ◌∙◌, subst, append_assoc, append-nil, length-append, length-drop, arith, zero, nat_lt, ltb-true}
use Rattle.std.specs.Prelude.{nat_eq, IsTrue, IsAscii}
use Rattle.std.proofs.lemmas.Bool.{cases_lt, and_parts}
use Rattle.std.proofs.lemmas.Grind.{common_steps}
use Rattle.std.proofs.lemmas.List.{length-map, length-take-le, map-append, take-map, take_at, drop_at, take_all, drop_all, take-take, take-append-le, take-append-drop, drop-drop, get_or_past, get_or_at, set_at, drop_more, take_more}
use Rattle.std.proofs.lemmas.Nat.{le_or_l, le_or_r}
use Rattle.std.proofs.lemmas.Simd.{put_chunk_is, get_or-zip2, get_or-chunk}
use Rattle.std.proofs.Math.Seq.{take-add}
use lib.Lanes.{zip2, chunk, put_chunk, sel_l, mask_l, top}
use borrow.Rule.Slice.PartMut.{put_mid, mid_of}
use Rattle.wsn_text.proofs.Blocks.{block_below}
use Rattle.wsn_redact.proofs.StoodTexts.{length-stood, stood-append, due_after-append, stood_front}
use Rattle.wsn_print.specs.EscapedText.{is_from}
use Rattle.wsn_redact.specs.StandIns.{single_stand_in, stand_in, stood, due_after}

-- ---- in place: a prefix is replaced, the other bytes are unchanged

abbrev pub singles : List ℕ → List ℕ
singles bytes = map single_stand_in bytes

abbrev pub singles_front : List ℕ → ℕ → List ℕ
singles_front bytes at = singles (take at bytes) ++ drop at bytes

pub length-singles : (bytes : List ℕ) → length (singles bytes) ≡ length bytes
length-singles bytes = length-map bytes single_stand_in

length-front : (bytes : List ℕ) (at : ℕ) → at ≤ length bytes → length (singles (take at bytes)) ≡ at
length-front bytes at within = length-singles (take at bytes) ∙ length-take-le at bytes within

pub length-singles_front : (bytes : List ℕ) (at : ℕ) → at ≤ length bytes → length (singles_front bytes at) ≡ length bytes
length-singles_front bytes at within = omega (arith, length-append (singles (take at bytes)) (drop at bytes), length-drop at bytes, length-front bytes at within)

-- What follows the prefix is unchanged.
pub chunk-after : (bytes : List ℕ) (at size : ℕ) → at ≤ length bytes → chunk at size (singles_front bytes at) ≡ chunk at size bytes
chunk-after bytes at size within = ap (λ (bs : List ℕ). take size bs) (drop_at (singles (take at bytes)) (drop at bytes) at (length-front bytes at within))

-- A prefix longer by a block.
pub singles_front-put : (bytes : List ℕ) (at size : ℕ) → at + size ≤ length bytes →
    put_chunk at (singles_front bytes at) (singles (chunk at size (singles_front bytes at))) ≡ singles_front bytes (at + size)
singles_front-put bytes at size within =
    let front = singles (take at bytes) in
    let front_length = length-front bytes at (omega arith) in
    let now = singles_front bytes at in
    let block = take size (drop at bytes) in
    let block_length : length (singles block) ≡ size = length-singles block ∙ length-take-le size (drop at bytes) (omega (arith, length-drop at bytes)) in
    let following : drop at now ≡ drop at bytes = drop_at front (drop at bytes) at front_length in
    let now_length = length-singles_front bytes at (omega arith) in
    let more : singles (take (at + size) bytes) ≡ front ++ singles block = ap singles (take-add at size bytes) ∙ map-append single_stand_in (take at bytes) block in
    ap (λ (bs : List ℕ). put_chunk at now (singles bs)) (chunk-after bytes at size (omega arith))
    ∙ put_chunk_is at now (singles block) (omega (arith, now_length, block_length))
    ∙ (λ i. take_at front (drop at bytes) at front_length i ++ (singles block ++ drop (block_length i) (following i)))
    ∙ ap (λ (bs : List ℕ). front ++ (singles block ++ bs)) (drop-drop size at bytes)
    ∙ sym (ap (λ (bs : List ℕ). bs ++ drop (at + size) bytes) more ∙ append_assoc front (singles block) (drop (at + size) bytes))

-- The last block, replaced before the others, completes a prefix that may overlap it.
pub singles_front-last : (bytes now : List ℕ) (last size at : ℕ) → last + size ≡ length bytes → last ≤ at → at ≤ length bytes →
    now ≡ singles_front bytes at → put_chunk last now (singles (chunk last size bytes)) ≡ singles bytes
singles_front-last bytes now last size at whole reached within is =
    let behind = drop last bytes in
    let behind_length : length behind ≡ size = length-drop last bytes ∙ omega arith in
    let all : chunk last size bytes ≡ behind = take_all size behind (omega (arith, behind_length)) in
    let block_length : length (singles behind) ≡ size = length-singles behind ∙ behind_length in
    let now_length : length now ≡ length bytes = ap (λ (bs : List ℕ). length bs) is ∙ length-singles_front bytes at within in
    let front : take last now ≡ singles (take last bytes) =
    ap (λ (bs : List ℕ). take last bs) is
    ∙ take-append-le last (singles (take at bytes)) (drop at bytes) (omega (arith, length-front bytes at within))
    ∙ take-map single_stand_in last (take at bytes) ∙ ap singles (take-take last at bytes reached) in
    let none : drop (length (singles behind)) (drop last now) ≡ [] = drop_all (length (singles behind)) (drop last now) (omega (arith, length-drop last now, now_length, block_length)) in
    ap (λ (bs : List ℕ). put_chunk last now (singles bs)) all
    ∙ put_chunk_is last now (singles behind) (omega (arith, now_length, block_length))
    ∙ (λ i. front i ++ (singles behind ++ none i))
    ∙ ap (λ (bs : List ℕ). singles (take last bytes) ++ bs) (append-nil (singles behind))
    ∙ sym (map-append single_stand_in (take last bytes) behind) ∙ ap singles (take-append-drop last bytes)

-- A prefix longer by one byte.
pub singles_front-at : (bytes : List ℕ) (i : ℕ) → i < length bytes → get_or (singles_front bytes i) i 0 ≡ get_or bytes i 0
singles_front-at bytes i within =
    let front = singles (take i bytes) in
    ap (λ (bs : List ℕ). get_or (front ++ bs) i 0) (drop_more bytes i 0 within)
    ∙ get_or_at front (get_or bytes i 0) (drop (i + 1) bytes) 0 i (length-front bytes i (omega (arith, within)))

pub singles_front-set : (bytes : List ℕ) (i : ℕ) → i < length bytes → slice_set (singles_front bytes i) i (single_stand_in (get_or (singles_front bytes i) i 0)) ≡ singles_front bytes (i + 1)
singles_front-set bytes i within =
    let front = singles (take i bytes) in
    let byte = single_stand_in (get_or bytes i 0) in
    let whole : singles_front bytes i ≡ front ++ get_or bytes i 0 ∷ drop (i + 1) bytes = ap (λ (bs : List ℕ). front ++ bs) (drop_more bytes i 0 within) in
    let longer : singles (take (i + 1) bytes) ≡ front ++ byte ∷ [] = ap singles (take_more bytes i 0 within) ∙ map-append single_stand_in (take i bytes) (get_or bytes i 0 ∷ []) in
    ap (λ (b : ℕ). slice_set (singles_front bytes i) i (single_stand_in b)) (singles_front-at bytes i within)
    ∙ ap (λ (bs : List ℕ). slice_set bs i byte) whole ∙ set_at front (get_or bytes i 0) (drop (i + 1) bytes) byte i (length-front bytes i (omega (arith, within)))
    ∙ sym (ap (λ (bs : List ℕ). bs ++ drop (i + 1) bytes) longer ∙ append_assoc front (byte ∷ []) (drop (i + 1) bytes))

-- ---- lanes

one_lane : (low high other b : ℕ) → cond (top 7 (bit_and (cond (leb low b) 255 0) (cond (leb b high) 255 0))) other b ≡ (if is_from low high b then other else b)
one_lane low high other b = go (leb low b) (leb b high)
  where
    go : (c d : Bool) → cond (top 7 (bit_and (cond c 255 0) (cond d 255 0))) other b ≡ (if c && d then other else b)
    go true true = refl
    go true false = refl
    go false true = refl
    go false false = refl

abbrev mask_from : ℕ → ℕ → ℕ → List ℕ → List ℕ
mask_from n low high v =
    zip2 bit_and (zip2 (λ (a b : ℕ). cond (leb a b) 255 0) (replicate n low) v) (zip2 (λ (a b : ℕ). cond (leb a b) 255 0) v (replicate n high))

lanes : (low high other : ℕ) (v : List ℕ) →
    sel_l (map (top 7) (mask_from (length v) low high v)) (replicate (length v) other) v ≡ map (λ b. if is_from low high b then other else b) v
lanes low high other [] = refl
lanes low high other (b ∷ v) = (λ i. one_lane low high other b i ∷ lanes low high other v i)

pub range_lanes : (low high other n : ℕ) (v : List ℕ) → length v ≡ n →
    sel_l (map (top 7) (mask_from n low high v)) (replicate n other) v ≡ map (λ b. if is_from low high b then other else b) v
range_lanes low high other n v long =
    ap (λ (m : ℕ). sel_l (map (top 7) (mask_from m low high v)) (replicate m other) v) (sym long) ∙ lanes low high other v

-- ---- one byte

abbrev in_range : ℕ → ℕ → ℕ → ℕ → ℕ
in_range low high other b = if is_from low high b then other else b

ranges_in_turn : (b : ℕ) → in_range 48 57 48 (in_range 65 90 88 (in_range 97 122 120 b)) ≡ single_stand_in b
ranges_in_turn b = grind (arith, common_steps)

ranges : (v : List ℕ) → map (in_range 48 57 48) (map (in_range 65 90 88) (map (in_range 97 122 120) v)) ≡ singles v
ranges [] = refl
ranges (b ∷ v) = (λ i. ranges_in_turn b i ∷ ranges v i)

-- One range after another.
pub by_ranges : (v first second third : List ℕ) → first ≡ map (in_range 97 122 120) v → second ≡ map (in_range 65 90 88) first → third ≡ map (in_range 48 57 48) second → third ≡ singles v
by_ranges v first second third one two three =
    three ∙ ap (λ (bs : List ℕ). map (in_range 48 57 48) bs) (two ∙ ap (λ (bs : List ℕ). map (in_range 65 90 88) bs) one) ∙ ranges v

pub ascii_stand_in : (b : ℕ) → b < 128 → stand_in b ≡ single_stand_in b ∷ []
ascii_stand_in b to = grind (arith, common_steps)

pub single_twice : (b : ℕ) → single_stand_in (single_stand_in b) ≡ single_stand_in b
single_twice b = grind (arith, common_steps)

pub single_ascii : (b : ℕ) → b < 128 → single_stand_in b < 128
single_ascii b to = grind (arith, common_steps)

pub single_longer : (b : ℕ) → 128 ≤ b → single_stand_in b ≡ b
single_longer b from = grind (arith, common_steps)

pub same_stand_in : (b : ℕ) → stand_in (single_stand_in b) ≡ stand_in b
same_stand_in b = elim (cases_lt b 128) [
  | inl to ↦ ascii_stand_in (single_stand_in b) (single_ascii b to) ∙ ap (λ (c : ℕ). c ∷ []) (single_twice b) ∙ sym (ascii_stand_in b to)
  | inr from ↦ ap stand_in (single_longer b from)
]

pub singles_twice : (bytes : List ℕ) → singles (singles bytes) ≡ singles bytes
singles_twice [] = refl
singles_twice (b ∷ bytes) = (λ i. single_twice b i ∷ singles_twice bytes i)

-- ---- texts

-- What is written is the same after bytes are replaced by themselves.
pub stood-singles : (due text : List ℕ) → stood due (singles text) ≡ stood due text
stood-singles due [] = refl
stood-singles [] (b ∷ text) =
    (λ i. slice_index (same_stand_in b i) 0 ∷ stood (drop 1 (same_stand_in b i)) (singles text)) ∙ ap (λ (bs : List ℕ). slice_index (stand_in b) 0 ∷ bs) (stood-singles (drop 1 (stand_in b)) text)
stood-singles (d ∷ due) (b ∷ text) = ap (λ (bs : List ℕ). d ∷ bs) (stood-singles due text)

pub due_after-singles : (due text : List ℕ) → due_after due (singles text) ≡ due_after due text
due_after-singles due [] = refl
due_after-singles [] (b ∷ text) = ap (λ (bs : List ℕ). due_after (drop 1 bs) (singles text)) (same_stand_in b) ∙ due_after-singles (drop 1 (stand_in b)) text
due_after-singles (d ∷ due) (b ∷ text) = due_after-singles due text

-- Of ASCII that is all.
pub stood_ascii : (text : List ℕ) → IsAscii text → stood [] text ≡ singles text
stood_ascii [] ascii = refl
stood_ascii (b ∷ text) ascii =
    let one = ascii_stand_in b (ascii 0) in
    (λ i. slice_index (one i) 0 ∷ stood (drop 1 (one i)) text) ∙ ap (λ (bs : List ℕ). single_stand_in b ∷ bs) (stood_ascii text (λ i. ascii (suc i)))

pub due_after_ascii : (text : List ℕ) → IsAscii text → due_after [] text ≡ []
due_after_ascii [] ascii = refl
due_after_ascii (b ∷ text) ascii =
    ap (λ (bs : List ℕ). due_after (drop 1 bs) text) (ascii_stand_in b (ascii 0)) ∙ due_after_ascii text (λ i. ascii (suc i))

-- ---- ASCII, by blocks

pub ascii_lanes : (n : ℕ) (v : List ℕ) → length v ≡ n → n ≤ 64 → IsTrue (nat_eq (mask_l (map (top 7) (zip2 (λ (a b : ℕ). cond (leb a b) 255 0) (replicate n 128) v)) % 2 ^ 64) 0) → IsAscii v
ascii_lanes n v long few low i = elim (cases_lt i n) [
  | inl within ↦
      let all : take n (drop 0 v) ≡ v = take_all n v (omega (arith, long)) in
      block_below v 0 n (omega (arith, long)) few
      (subst (λ (bs : List ℕ). IsTrue (nat_eq (mask_l (map (top 7) (zip2 (λ (a b : ℕ). cond (leb a b) 255 0) (replicate n 128) bs)) % 2 ^ 64) 0)) (sym all) low)
      i (omega arith) (omega (arith, within))
  | inr past ↦ subst (λ (b : ℕ). b < 128) (sym (get_or_past v i 0 (omega (arith, long, past)))) (omega arith)
]

pub both_ascii : (v w : List ℕ) → length v ≡ length w → IsAscii (zip2 bit_or v w) → IsAscii v × IsAscii w
both_ascii v w same ascii = (λ i. (at i).0, λ i. (at i).1)
  where
    at : (i : ℕ) → (slice_index v i < 128) × (slice_index w i < 128)
    at i = elim (cases_lt i (length v)) [
      | inl within ↦
          let both = get_or-zip2 bit_or v w i 0 0 0 within (omega (arith, same, within)) in
          let low = ascii i in
          (omega (arith, both, low, le_or_l (slice_index v i) (slice_index w i)), omega (arith, both, low, le_or_r (slice_index v i) (slice_index w i)))
      | inr past ↦ (subst (λ (b : ℕ). b < 128) (sym (get_or_past v i 0 past)) (omega arith), subst (λ (b : ℕ). b < 128) (sym (get_or_past w i 0 (omega (arith, same, past)))) (omega arith))
    ]

abbrev pub IsAsciiTo : List ℕ → ℕ → Type 0
IsAsciiTo bytes at = (i : ℕ) → i < at → slice_index bytes i < 128

in_block : (bytes : List ℕ) (at size i : ℕ) → at ≤ i → i < at + size → IsAscii (chunk at size bytes) → slice_index bytes i < 128
in_block bytes at size i from below block =
    let place : at + (i - at) ≡ i = omega (arith, from) in
    subst (λ (b : ℕ). b < 128) (get_or-chunk at size bytes (i - at) 0 (omega (arith, from, below)) ∙ ap (λ (n : ℕ). slice_index bytes n) place) (block (i - at))

-- A prefix, and a block after it.
pub ascii_more : (bytes : List ℕ) (at size : ℕ) → IsAsciiTo bytes at → IsAscii (chunk at size bytes) → IsAsciiTo bytes (at + size)
ascii_more bytes at size front block i below = elim (cases_lt i at) [
  | inl l ↦ front i l
  | inr from ↦ in_block bytes at size i from below block
]

-- A prefix, and the last block.
pub ascii_all : (bytes : List ℕ) (at last size : ℕ) → last + size ≡ length bytes → last ≤ at → IsAsciiTo bytes at → IsAscii (chunk last size bytes) → IsAscii bytes
ascii_all bytes at last size whole reached front block i = elim (cases_lt i at) [
  | inl l ↦ front i l
  | inr from ↦ elim (cases_lt i (length bytes)) [
    | inl within ↦ in_block bytes last size i (omega (arith, reached, from)) (omega (arith, whole, within)) block
    | inr past ↦ subst (λ (b : ℕ). b < 128) (sym (get_or_past bytes i 0 past)) (omega arith)
  ]
]

-- A prefix, and the byte after it.
pub ascii_byte : (bytes now : List ℕ) (i : ℕ) (ascii : Bool) → i < length bytes → now ≡ singles_front bytes i → (IsTrue ascii → IsAsciiTo bytes i) → IsTrue (ascii && nat_lt (get_or now i 0) 128) → IsAsciiTo bytes (i + 1)
ascii_byte bytes now i ascii within is before all k below =
    let parts = and_parts ascii (nat_lt (get_or now i 0) 128) all in
    let byte : get_or now i 0 ≡ get_or bytes i 0 = ap (λ (bs : List ℕ). get_or bs i 0) is ∙ singles_front-at bytes i within in
    elim (cases_lt k i) [
      | inl l ↦ before parts.0 k l
      | inr from ↦
          let place : i ≡ k = omega (arith, from, below) in
          subst (λ (n : ℕ). slice_index bytes n < 128) place (subst (λ (b : ℕ). b < 128) byte (ltb-true _ _ parts.1))
    ]

-- ---- a part of a text whose letters and digits are replaced

drop-singles : (n : ℕ) (bytes : List ℕ) → drop n (singles bytes) ≡ singles (drop n bytes)
drop-singles zero bytes = refl
drop-singles (suc n) [] = refl
drop-singles (suc n) (b ∷ bytes) = drop-singles n bytes

part_is : (due bytes now : List ℕ) (at count : ℕ) → at ≤ length bytes → now ≡ stood_front due bytes at → mid_of at count now ≡ take count (drop at bytes)
part_is due bytes now at count within is =
    ap (λ (bs : List ℕ). take count (drop at bs)) is
    ∙ ap (λ (bs : List ℕ). take count bs) (drop_at (stood due (take at bytes)) (drop at bytes) at (length-stood due (take at bytes) ∙ length-take-le at bytes within))

pub part_singles : (due bytes now : List ℕ) (at count : ℕ) → at ≤ length bytes → now ≡ stood_front due bytes at → singles bytes ≡ bytes → singles (mid_of at count now) ≡ mid_of at count now
part_singles due bytes now at count within is same =
    let part = part_is due bytes now at count within is in
    ap singles part ∙ sym (take-map single_stand_in count (drop at bytes)) ∙ ap (λ (bs : List ℕ). take count bs) (sym (drop-singles at bytes))
    ∙ ap (λ (bs : List ℕ). take count (drop at bs)) same ∙ sym part

pub length-stood_front : (due bytes : List ℕ) (at : ℕ) → at ≤ length bytes → length (stood_front due bytes at) ≡ length bytes
length-stood_front due bytes at within =
    omega (arith, length-append (stood due (take at bytes)) (drop at bytes), length-stood due (take at bytes), length-take-le at bytes within, length-drop at bytes)

-- A prefix longer by a part.
pub stood_front-part : (due bytes now part : List ℕ) (at end : ℕ) → at ≤ end → end ≤ length bytes → now ≡ stood_front due bytes at
    → part ≡ stood (due_after due (take at bytes)) (mid_of at (end - at) now) → put_mid at (end - at) now part ≡ stood_front due bytes end
stood_front-part due bytes now part at end more within is part_stood =
    let count = end - at in
    let front = stood due (take at bytes) in
    let some = stood (due_after due (take at bytes)) (take count (drop at bytes)) in
    let front_length : length front ≡ at = length-stood due (take at bytes) ∙ length-take-le at bytes (omega (arith, more, within)) in
    let written : part ≡ some = part_stood ∙ ap (λ (bs : List ℕ). stood (due_after due (take at bytes)) bs) (part_is due bytes now at count (omega (arith, more, within)) is) in
    let whole : at + count ≡ end = omega (arith, more) in
    let longer : stood due (take (at + count) bytes) ≡ front ++ some = ap (λ (bs : List ℕ). stood due bs) (take-add at count bytes) ∙ stood-append due (take at bytes) (take count (drop at bytes)) in
    (λ i. take at (is i) ++ (written i ++ drop count (drop at (is i))))
    ∙ (λ i. take_at front (drop at bytes) at front_length i ++ (some ++ drop count (drop_at front (drop at bytes) at front_length i)))
    ∙ ap (λ (bs : List ℕ). front ++ (some ++ bs)) (drop-drop count at bytes)
    ∙ sym (ap (λ (bs : List ℕ). bs ++ drop (at + count) bytes) longer ∙ append_assoc front some (drop (at + count) bytes))
    ∙ ap (λ (n : ℕ). stood_front due bytes n) whole

pub due_front-part : (due bytes now : List ℕ) (at end : ℕ) → at ≤ end → end ≤ length bytes → now ≡ stood_front due bytes at
    → due_after (due_after due (take at bytes)) (mid_of at (end - at) now) ≡ due_after due (take end bytes)
due_front-part due bytes now at end more within is =
    let count = end - at in
    let whole : at + count ≡ end = omega (arith, more) in
    ap (λ (bs : List ℕ). due_after (due_after due (take at bytes)) bs) (part_is due bytes now at count (omega (arith, more, within)) is)
    ∙ sym (ap (λ (bs : List ℕ). due_after due bs) (take-add at count bytes) ∙ due_after-append due (take at bytes) (take count (drop at bytes)))
    ∙ ap (λ (n : ℕ). due_after due (take n bytes)) whole
