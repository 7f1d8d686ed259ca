-- Masking: in parts, twice, with a key of zeros, and what it leaves as it was.
use Rattle.std.proofs.Common.{◌≡◌, ℕ, zero, suc, ◌+◌, ◌%◌, ◌<◌, List, [], ◌∷◌, ◌++◌, length, refl, ap, arith, get_or, add-zero, ◌∙◌, sym, take, drop, ◌≤◌, slice_set, replicate, ◌*◌, ◌/◌, ◌^◌}
use Rattle.std.proofs.lemmas.List.{length-take-le, drop_more, get_or_at, set_at, append_assoc, drop_at, take_at, drop-drop, length-drop, length-append, drop_all, take-append-drop, append-nil, take_all, take-take, take-append-le}
use Rattle.std.specs.Simd.Lanes.{zip2, chunk, put_chunk, digits_l}
use Rattle.std.proofs.lemmas.Simd.{put_chunk_is}
use lib.Seq.{take-add}
use Rattle.std.specs.List.{AllByRecursion, slice_index}
use Rattle.std.specs.Int.Bits.{bit_xor, xor_assoc, xor_self, xor_zero_r, xor_zero_l}
use Rattle.std.proofs.lemmas.Nat.{xor_of_8}
use Rattle.wsn_wire.specs.Frame.{masked, IsBytes}

pub length-masked : (key : List ℕ) (start : ℕ) (bytes : List ℕ) → length (masked key start bytes) ≡ length bytes
length-masked key start [] = refl
length-masked key start (b ∷ bs) = ap suc (length-masked key (start + 1) bs)

-- The second part is masked from the offset where the first ends.
pub masked-append : (key : List ℕ) (start : ℕ) (xs ys : List ℕ) → masked key start (xs ++ ys) ≡ masked key start xs ++ masked key (start + length xs) ys
masked-append key start [] ys = rw add-zero refl
masked-append key start (x ∷ xs) ys =
    let next : start + 1 + length xs ≡ start + suc (length xs) = omega arith in
    let rest = masked-append key (start + 1) xs ys in
    rw (← next) (ap (λ bytes. bit_xor x (slice_index key (start % 4)) ∷ bytes) rest)

-- Masking with one key from one offset is its own inverse.
pub masked-masked : (key : List ℕ) (start : ℕ) (bytes : List ℕ) → masked key start (masked key start bytes) ≡ bytes
masked-masked key start [] = refl
masked-masked key start (b ∷ bs) =
    let rest = masked-masked key (start + 1) bs in
    rw (xor_assoc, xor_self, xor_zero_r) (ap (λ bytes. b ∷ bytes) rest)

-- What holds of each number of a list, and of 0, holds at every index.
pub at-All : (P : ℕ → Type 0) → P 0 → (xs : List ℕ) → AllByRecursion P xs → (i : ℕ) → P (get_or xs i 0)
at-All P past [] all i = past
at-All P past (x ∷ xs) all zero = all.0
at-All P past (x ∷ xs) all (suc i) = at-All P past xs all.1 i

-- A key of zeros changes nothing.
pub masked-zero : (start : ℕ) (bytes : List ℕ) → masked (0 ∷ 0 ∷ 0 ∷ 0 ∷ []) start bytes ≡ bytes
masked-zero start [] = refl
masked-zero start (b ∷ bs) =
    let none = at-All (λ n. n ≡ 0) refl (0 ∷ 0 ∷ 0 ∷ 0 ∷ []) (refl, (refl, (refl, (refl, tt)))) (start % 4) in
    let rest = masked-zero (start + 1) bs in
    rw (none, xor_zero_r) (ap (λ bytes. b ∷ bytes) rest)

-- Masked bytes are bytes.
pub masked-bytes : (key : List ℕ) (start : ℕ) (bytes : List ℕ) → IsBytes key → IsBytes bytes → IsBytes (masked key start bytes)
masked-bytes key start [] of_key all = all
masked-bytes key start (b ∷ bs) of_key all =
    let part : get_or key (start % 4) 0 < 256 = at-All (λ n. n < 256) (omega arith) key of_key (start % 4) in
    (xor_of_8 b (get_or key (start % 4) 0) all.0 part, masked-bytes key (start + 1) bs of_key all.1)

-- ---- in place: a prefix is masked, the other bytes are unchanged

abbrev pub masked_front : List ℕ → ℕ → List ℕ → ℕ → List ℕ
masked_front key start bytes count = masked key start (take count bytes) ++ drop count bytes

pub length-masked_front : (key : List ℕ) (start : ℕ) (bytes : List ℕ) (count : ℕ) → length (masked_front key start bytes count) ≡ length bytes
length-masked_front key start bytes count =
    length-append (masked key start (take count bytes)) (drop count bytes) ∙ ap (λ n. n + length (drop count bytes)) (length-masked key start (take count bytes))
    ∙ sym (length-append (take count bytes) (drop count bytes)) ∙ ap (λ bs. length bs) (take-append-drop count bytes)

length-front : (key : List ℕ) (start : ℕ) (bytes : List ℕ) (count : ℕ) → count ≤ length bytes → length (masked key start (take count bytes)) ≡ count
length-front key start bytes count within = length-masked key start (take count bytes) ∙ length-take-le count bytes within

-- A longer prefix, whatever its bytes.
masked_front-append : (key : List ℕ) (start : ℕ) (bytes : List ℕ) (at count : ℕ) → at ≤ length bytes →
    masked_front key start bytes (at + count) ≡ masked key start (take at bytes) ++ (masked key (start + at) (take count (drop at bytes)) ++ drop (at + count) bytes)
masked_front-append key start bytes at count within =
    let front = take at bytes in
    let more = take count (drop at bytes) in
    let place : start + length front ≡ start + at = ap (λ n. start + n) (length-take-le at bytes within) in
    let joined : masked key start (take (at + count) bytes) ≡ masked key start front ++ masked key (start + at) more =
    ap (λ bs. masked key start bs) (take-add at count bytes) ∙ (masked-append key start front more ∙ ap (λ n. masked key start front ++ masked key n more) place) in
    ap (λ bs. bs ++ drop (at + count) bytes) joined ∙ append_assoc (masked key start front) (masked key (start + at) more) (drop (at + count) bytes)

-- A prefix longer by one byte.
pub masked_front-set : (key : List ℕ) (start : ℕ) (bytes : List ℕ) (i : ℕ) → i < length bytes →
    slice_set (masked_front key start bytes i) i (bit_xor (get_or (masked_front key start bytes i) i 0) (get_or key ((start + i) % 4) 0)) ≡ masked_front key start bytes (i + 1)
masked_front-set key start bytes i within =
    let front = masked key start (take i bytes) in
    let front_length = length-front key start bytes i (omega arith) in
    let rest : drop i bytes ≡ get_or bytes i 0 ∷ drop (i + 1) bytes = drop_more bytes i 0 within in
    let whole : front ++ drop i bytes ≡ front ++ get_or bytes i 0 ∷ drop (i + 1) bytes = ap (λ bs. front ++ bs) rest in
    let read : get_or (front ++ drop i bytes) i 0 ≡ get_or bytes i 0 = ap (λ bs. get_or bs i 0) whole ∙ get_or_at front (get_or bytes i 0) (drop (i + 1) bytes) 0 i front_length in
    let byte = bit_xor (get_or bytes i 0) (get_or key ((start + i) % 4) 0) in
    let written : slice_set (front ++ drop i bytes) i byte ≡ front ++ byte ∷ drop (i + 1) bytes =
    ap (λ bs. slice_set bs i byte) whole ∙ set_at front (get_or bytes i 0) (drop (i + 1) bytes) byte i front_length in
    let one : take 1 (drop i bytes) ≡ get_or bytes i 0 ∷ [] = ap (λ bs. take 1 bs) rest in
    let more : masked_front key start bytes (i + 1) ≡ front ++ byte ∷ drop (i + 1) bytes =
    masked_front-append key start bytes i 1 (omega arith) ∙ ap (λ bs. front ++ (masked key (start + i) bs ++ drop (i + 1) bytes)) one in
    rw read (written ∙ sym more)

-- ---- by vectors

-- After four bytes the key repeats.
pub masked-round : (key : List ℕ) (start at : ℕ) (bytes : List ℕ) → at % 4 ≡ 0 → masked key (start + at) bytes ≡ masked key start bytes
masked-round key start at [] round = refl
masked-round key start at (b ∷ bs) round =
    let same : (start + at) % 4 ≡ start % 4 = omega arith in
    let next : start + at + 1 ≡ start + 1 + at = omega arith in
    rw (same, next) (ap (λ bytes. bit_xor b (get_or key (start % 4) 0) ∷ bytes) (masked-round key (start + 1) at bs round))

-- Masked zeros are the key bytes to XOR with.
pub zip2-masked : (key : List ℕ) (start : ℕ) (bytes : List ℕ) → zip2 bit_xor bytes (masked key start (replicate (length bytes) 0)) ≡ masked key start bytes
zip2-masked key start [] = refl
zip2-masked key start (b ∷ bs) = rw (xor_zero_l (get_or key (start % 4) 0)) (ap (λ bytes. bit_xor b (get_or key (start % 4) 0) ∷ bytes) (zip2-masked key (start + 1) bs))

-- A prefix longer by a block.
pub masked_front-put_chunk : (key : List ℕ) (start : ℕ) (bytes : List ℕ) (at size : ℕ) → at + size ≤ length bytes → at % 4 ≡ 0 →
    put_chunk at (masked_front key start bytes at) (zip2 bit_xor (chunk at size (masked_front key start bytes at)) (masked key start (replicate size 0)))
    ≡ masked_front key start bytes (at + size)
masked_front-put_chunk key start bytes at size within round =
    let front = masked key start (take at bytes) in
    let front_length = length-front key start bytes at (omega arith) in
    let now = masked_front key start bytes at in
    let block = take size (drop at bytes) in
    let block_length : length block ≡ size = length-take-le size (drop at bytes) (rw length-drop (omega arith)) in
    let following : drop at now ≡ drop at bytes = drop_at front (drop at bytes) at front_length in
    let masked_block : zip2 bit_xor (chunk at size now) (masked key start (replicate size 0)) ≡ masked key start block =
    ap (λ bs. zip2 bit_xor (take size bs) (masked key start (replicate size 0))) following
    ∙ (ap (λ n. zip2 bit_xor block (masked key start (replicate n 0))) (sym block_length) ∙ zip2-masked key start block) in
    let masked_length : length (masked key start block) ≡ size = length-masked key start block ∙ block_length in
    let now_length : length now ≡ length bytes = omega (arith, length-append front (drop at bytes), length-drop at bytes, front_length) in
    let written : put_chunk at now (masked key start block) ≡ front ++ (masked key start block ++ drop (at + size) bytes) =
    put_chunk_is at now (masked key start block) (omega (arith, now_length, masked_length))
    ∙ (λ i. take_at front (drop at bytes) at front_length i ++ (masked key start block ++ drop (masked_length i) (following i)))
    ∙ ap (λ bs. front ++ (masked key start block ++ bs)) (drop-drop size at bytes) in
    ap (λ bs. put_chunk at now bs) masked_block
    ∙ (written ∙ sym (masked_front-append key start bytes at size (omega arith) ∙ ap (λ bs. front ++ (bs ++ drop (at + size) bytes)) (masked-round key start at block round)))

-- One round of the key in a word of four bytes, the lowest first: the bytes of masked zeros.
pub word-masked : (key : List ℕ) (start word rest count : ℕ) (zeros : List ℕ) →
    get_or key (start % 4) 0 < 256 → get_or key ((start % 4 + 1) % 4) 0 < 256 → get_or key ((start % 4 + 2) % 4) 0 < 256 → get_or key ((start % 4 + 3) % 4) 0 < 256 →
    word ≡ get_or key (start % 4) 0 + get_or key ((start % 4 + 1) % 4) 0 * 256 + get_or key ((start % 4 + 2) % 4) 0 * 65536 + get_or key ((start % 4 + 3) % 4) 0 * 16777216 →
    digits_l 256 count rest ≡ masked key start zeros →
    digits_l 256 (suc (suc (suc (suc count)))) (word + 4294967296 * rest) ≡ masked key start (0 ∷ 0 ∷ 0 ∷ 0 ∷ zeros)
word-masked key start word rest count zeros first second third fourth is_word following =
    let number = word + 4294967296 * rest in
    let byte0 : number % 256 ≡ bit_xor 0 (get_or key (start % 4) 0) = rw (xor_zero_l (get_or key (start % 4) 0)) (omega arith) in
    let byte1 : number / 256 % 256 ≡ bit_xor 0 (get_or key ((start + 1) % 4) 0) = let turn : (start + 1) % 4 ≡ (start % 4 + 1) % 4 = omega arith in rw (turn, xor_zero_l (get_or key ((start % 4 + 1) % 4) 0)) (omega arith) in
    let byte2 : number / 256 / 256 % 256 ≡ bit_xor 0 (get_or key ((start + 1 + 1) % 4) 0) = let turn : (start + 1 + 1) % 4 ≡ (start % 4 + 2) % 4 = omega arith in rw (turn, xor_zero_l (get_or key ((start % 4 + 2) % 4) 0)) (omega arith) in
    let byte3 : number / 256 / 256 / 256 % 256 ≡ bit_xor 0 (get_or key ((start + 1 + 1 + 1) % 4) 0) = let turn : (start + 1 + 1 + 1) % 4 ≡ (start % 4 + 3) % 4 = omega arith in rw (turn, xor_zero_l (get_or key ((start % 4 + 3) % 4) 0)) (omega arith) in
    let left : number / 256 / 256 / 256 / 256 ≡ rest = omega arith in
    let place : start + 1 + 1 + 1 + 1 ≡ start + 4 = omega arith in
    let round = masked-round key start 4 zeros refl in
    let after : digits_l 256 count (number / 256 / 256 / 256 / 256) ≡ masked key (start + 1 + 1 + 1 + 1) zeros =
    ap (λ n. digits_l 256 count n) left ∙ (following ∙ (sym round ∙ ap (λ n. masked key n zeros) (sym place))) in
    λ i. byte0 i ∷ byte1 i ∷ byte2 i ∷ byte3 i ∷ after i

-- Zeros, four for each round.
abbrev pub zero_rounds : ℕ → List ℕ
zero_rounds zero = []
zero_rounds (suc n) = 0 ∷ 0 ∷ 0 ∷ 0 ∷ zero_rounds n

abbrev pub word_rounds : ℕ → ℕ → ℕ
word_rounds word zero = 0
word_rounds word (suc n) = word + 4294967296 * word_rounds word n

abbrev pub round_bytes : ℕ → ℕ
round_bytes zero = 0
round_bytes (suc n) = suc (suc (suc (suc (round_bytes n))))

-- A repeated word of the key has the bytes of masked zeros.
pub words-masked : (key : List ℕ) (start word : ℕ) →
    get_or key (start % 4) 0 < 256 → get_or key ((start % 4 + 1) % 4) 0 < 256 → get_or key ((start % 4 + 2) % 4) 0 < 256 → get_or key ((start % 4 + 3) % 4) 0 < 256 →
    word ≡ get_or key (start % 4) 0 + get_or key ((start % 4 + 1) % 4) 0 * 256 + get_or key ((start % 4 + 2) % 4) 0 * 65536 + get_or key ((start % 4 + 3) % 4) 0 * 16777216 →
    (n : ℕ) → digits_l 256 (round_bytes n) (word_rounds word n) ≡ masked key start (zero_rounds n)
words-masked key start word first second third fourth is_word zero = refl
words-masked key start word first second third fourth is_word (suc n) =
    word-masked key start word (word_rounds word n) (round_bytes n) (zero_rounds n) first second third fourth is_word (words-masked key start word first second third fourth is_word n)

-- Of two rounds of the key in one word, the lowest byte first, the four bytes from this one on.
pub rounds-turned : (key : List ℕ) (word turn : ℕ) → turn < 4 →
    get_or key 0 0 < 256 → get_or key 1 0 < 256 → get_or key 2 0 < 256 → get_or key 3 0 < 256 →
    word ≡ get_or key 0 0 + get_or key 1 0 * 256 + get_or key 2 0 * 65536 + get_or key 3 0 * 16777216 →
    word * 4294967297 / 2 ^ (turn * 8) % 4294967296
    ≡ get_or key turn 0 + get_or key ((turn + 1) % 4) 0 * 256 + get_or key ((turn + 2) % 4) 0 * 65536 + get_or key ((turn + 3) % 4) 0 * 16777216
rounds-turned key word zero small first second third fourth is_word = omega arith
rounds-turned key word (suc zero) small first second third fourth is_word = omega arith
rounds-turned key word (suc (suc zero)) small first second third fourth is_word = omega arith
rounds-turned key word (suc (suc (suc zero))) small first second third fourth is_word = omega arith
rounds-turned key word (suc (suc (suc (suc turn)))) small first second third fourth is_word = omega arith

-- The four bytes of a key are below 256.
pub bytes-of-key : (key : List ℕ) → get_or key 0 0 < 256 → get_or key 1 0 < 256 → get_or key 2 0 < 256 → get_or key 3 0 < 256 → (i : ℕ) → i < 4 → get_or key i 0 < 256
bytes-of-key key first second third fourth zero small = first
bytes-of-key key first second third fourth (suc zero) small = second
bytes-of-key key first second third fourth (suc (suc zero)) small = third
bytes-of-key key first second third fourth (suc (suc (suc zero))) small = fourth
bytes-of-key key first second third fourth (suc (suc (suc (suc i)))) small = omega arith

take-masked : (key : List ℕ) (start n : ℕ) (bytes : List ℕ) → take n (masked key start bytes) ≡ masked key start (take n bytes)
take-masked key start zero bytes = refl
take-masked key start (suc n) [] = refl
take-masked key start (suc n) (b ∷ bs) = ap (λ bytes. bit_xor b (get_or key (start % 4) 0) ∷ bytes) (take-masked key (start + 1) n bs)

-- The last bytes, masked before the others, complete a masked prefix that may overlap them.
pub masked_front-last : (key : List ℕ) (start : ℕ) (bytes now block : List ℕ) (last size at : ℕ) → last + size ≡ length bytes → last ≤ at → at ≤ length bytes →
    now ≡ masked_front key start bytes at → block ≡ zip2 bit_xor (chunk last size bytes) (masked key (start + last) (replicate size 0)) →
    put_chunk last now block ≡ masked key start bytes
masked_front-last key start bytes now block last size at whole before within is block_is =
    let behind = drop last bytes in
    let behind_length : length behind ≡ size = length-drop last bytes ∙ omega arith in
    let chunk_is : chunk last size bytes ≡ behind = take_all size behind (omega (arith, behind_length)) in
    let block_masked : block ≡ masked key (start + last) behind =
    block_is ∙ ((λ i. zip2 bit_xor (chunk_is i) (masked key (start + last) (replicate (sym behind_length i) 0))) ∙ zip2-masked key (start + last) behind) in
    let block_length : length block ≡ size = ap (λ bs. length bs) block_masked ∙ (length-masked key (start + last) behind ∙ behind_length) in
    let now_length : length now ≡ length bytes = ap (λ bs. length bs) is ∙ length-masked_front key start bytes at in
    let shorter : take last (take at bytes) ≡ take last bytes = take-take last at bytes before in
    let front : take last now ≡ masked key start (take last bytes) =
    ap (λ bs. take last bs) is
    ∙ (take-append-le last (masked key start (take at bytes)) (drop at bytes) (omega (arith, length-front key start bytes at within))
    ∙ (take-masked key start last (take at bytes) ∙ ap (λ bs. masked key start bs) shorter)) in
    let none : drop (length block) (drop last now) ≡ [] = drop_all (length block) (drop last now) (omega (arith, length-drop last now, now_length, block_length)) in
    let place : start + length (take last bytes) ≡ start + last = ap (λ n. start + n) (length-take-le last bytes (omega arith)) in
    let joined : masked key start bytes ≡ masked key start (take last bytes) ++ masked key (start + last) behind =
    ap (λ bs. masked key start bs) (sym (take-append-drop last bytes))
    ∙ (masked-append key start (take last bytes) behind ∙ ap (λ n. masked key start (take last bytes) ++ masked key n behind) place) in
    put_chunk_is last now block (omega (arith, now_length, block_length))
    ∙ ((λ i. front i ++ (block_masked i ++ none i)) ∙ (ap (λ bs. masked key start (take last bytes) ++ bs) (append-nil (masked key (start + last) behind)) ∙ sym joined))

-- A first and a last part, each masked before one is written, that overlap or meet.
pub masked-by-ends : (key : List ℕ) (start : ℕ) (bytes front back : List ℕ) (last size : ℕ) → last + size ≡ length bytes → last ≤ size →
    front ≡ masked key start (replicate size 0) → back ≡ masked key (start + last) (replicate size 0) →
    put_chunk last (put_chunk 0 bytes (zip2 bit_xor (take size bytes) front)) (zip2 bit_xor (chunk last size bytes) back) ≡ masked key start bytes
masked-by-ends key start bytes front back last size whole before front_is back_is =
    let none : 0 + size ≡ size = omega arith in
    let first : put_chunk 0 bytes (zip2 bit_xor (take size bytes) front) ≡ masked_front key start bytes size =
    ap (λ (lanes : List ℕ). put_chunk 0 bytes (zip2 bit_xor (take size bytes) lanes)) front_is
    ∙ (masked_front-put_chunk key start bytes 0 size (omega arith) refl ∙ ap (λ n. masked_front key start bytes n) none) in
    masked_front-last key start bytes (put_chunk 0 bytes (zip2 bit_xor (take size bytes) front)) (zip2 bit_xor (chunk last size bytes) back) last size size
    whole before (omega arith) first (ap (λ (lanes : List ℕ). zip2 bit_xor (chunk last size bytes) lanes) back_is)
