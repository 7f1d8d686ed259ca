-- Parts of a line that are written from the first to the last.
use Rattle.std.proofs.Common.{◌≡◌, ℕ, ◌+◌, ◌/◌, ◌%◌, ◌^◌, ◌<◌, ◌≤◌, List, [], ◌∷◌, ◌++◌, length, take, sym, ap, ◌∙◌, arith, codes, decimal, drop, ◌-◌, slice_range, append_assoc, length-take-le, take-take}
use Rattle.std.specs.Prelude.{slice_index}
use Rattle.std.proofs.Math.Seq.{take-append-add}
use Rattle.std.proofs.lemmas.List.{take-append-le, take_all}
use Rattle.std.proofs.lemmas.Fmt.{decimal_digit}
use Rattle.hex.specs.Hex.{encode_with, encode_lower}
use Rattle.wsn_rules.specs.declared.head_info.HeadInfo.{HeadInfo}
use Rattle.wsn_print.specs.HeadText.{fin_word, op_word, key_text, form_text, head_fields, head_line}
use Rattle.itoa.proofs.Decimal.{decimal_two, decimal_pair, decimal_four}
use Rattle.wsn_print.proofs.Appended.{two, four}

-- The front of a block that was written whole.
pub front_of_block : (at len : ℕ) (old new block : List ℕ) → at ≤ length old → len ≤ length block → take (at + length block) new ≡ take at old ++ block
    → take (at + len) new ≡ take at old ++ take len block
front_of_block at len old new block within front written =
    let before : length (take at old) ≡ at = length-take-le at old within in
    sym (take-take (at + len) (at + length block) new (omega (arith, front))) ∙ ap (λ (bs : List ℕ). take (at + len) bs) written
    ∙ ap (λ (n : ℕ). take (n + len) (take at old ++ block)) (sym before)
    ∙ take-append-add (take at old) block len

-- The digits of a key's four bytes, each after those before it.
pub key_of_bytes : (key t0 t1 t2 t3 t4 : List ℕ) → length key ≡ 4 → t1 ≡ t0 ++ encode_lower (slice_index key 0 ∷ []) → t2 ≡ t1 ++ encode_lower (slice_index key 1 ∷ [])
    → t3 ≡ t2 ++ encode_lower (slice_index key 2 ∷ []) → t4 ≡ t3 ++ encode_lower (slice_index key 3 ∷ []) → t4 ≡ t0 ++ encode_lower key
unfolding encode_with
key_of_bytes (a ∷ b ∷ c ∷ d ∷ []) t0 t1 t2 t3 t4 size is1 is2 is3 is4 = four t0 t1 t2 t3 t4 _ _ _ _ is1 is2 is3 is4
key_of_bytes [] t0 t1 t2 t3 t4 size is1 is2 is3 is4 = absurd (omega (arith, size))
key_of_bytes (a ∷ []) t0 t1 t2 t3 t4 size is1 is2 is3 is4 = absurd (omega (arith, size))
key_of_bytes (a ∷ b ∷ []) t0 t1 t2 t3 t4 size is1 is2 is3 is4 = absurd (omega (arith, size))
key_of_bytes (a ∷ b ∷ c ∷ []) t0 t1 t2 t3 t4 size is1 is2 is3 is4 = absurd (omega (arith, size))
key_of_bytes (a ∷ b ∷ c ∷ d ∷ e ∷ more) t0 t1 t2 t3 t4 size is1 is2 is3 is4 = absurd (omega (arith, size))

-- Digits that end at k in an array, as the front of the k bytes where they begin.
pub digits_in_block : (k start : ℕ) (array text rest : List ℕ) → start + length text ≡ k → drop start array ≡ text ++ rest → take (k - start) (slice_range array start (start + k)) ≡ text
digits_in_block k start array text rest ends is =
    let count : start + k - start ≡ k = omega arith in
    let size : k - start ≡ length text = omega (arith, ends) in
    ap (λ (n : ℕ). take (k - start) (take n (drop start array))) count
    ∙ take-take (k - start) k (drop start array) (omega arith)
    ∙ ap (take (k - start)) is
    ∙ ap (λ (n : ℕ). take n (text ++ rest)) size
    ∙ take-append-le (length text) text rest (omega arith) ∙ take_all (length text) text (omega arith)

-- A number of three digits.
pub of_three : (n : ℕ) → 100 ≤ n → n < 1000 → decimal n ≡ ((48 + n / 100) ∷ []) ++ ((48 + n % 100 / 10) ∷ (48 + n % 100 % 10) ∷ [])
of_three n least most = decimal_pair n least (omega (arith, most)) ∙ ap (λ (bs : List ℕ). bs ++ ((48 + n % 100 / 10) ∷ (48 + n % 100 % 10) ∷ [])) (decimal_digit (n / 100) (omega (arith, most)))

-- A number of four digits.
pub of_four : (n : ℕ) → 1000 ≤ n → n < 10000 → decimal n ≡ ((48 + n / 100 / 10) ∷ (48 + n / 100 % 10) ∷ []) ++ ((48 + n % 100 / 10) ∷ (48 + n % 100 % 10) ∷ [])
of_four n least most =
    decimal_pair n (omega (arith, least)) (omega (arith, most))
    ∙ ap (λ (bs : List ℕ). bs ++ ((48 + n % 100 / 10) ∷ (48 + n % 100 % 10) ∷ [])) (decimal_two (n / 100) (omega (arith, least)) (omega (arith, most)))

-- The last four digits of a number.
abbrev pub last_four : ℕ → List ℕ
last_four n = (48 + n % 10000 / 100 / 10) ∷ (48 + n % 10000 / 100 % 10) ∷ (48 + n % 10000 % 100 / 10) ∷ (48 + n % 10000 % 100 % 10) ∷ []

-- A number of more than four digits.
pub of_last_four : (n : ℕ) → 10000 ≤ n → n < 2 ^ 64 → decimal n ≡ decimal (n / 10000) ++ last_four n
of_last_four n least most = decimal_four n least most

-- ---- the fields of a head

one_after_another : (t0 space fin op key len form end : List ℕ)
    → (((((t0 ++ (space ++ fin)) ++ (space ++ op ++ space)) ++ key) ++ space) ++ len) ++ (form ++ end)
    ≡ t0 ++ (space ++ (fin ++ space ++ op ++ space ++ key ++ space ++ len ++ form) ++ end)
one_after_another t0 space fin op key len form end = simp append_assoc

-- The text after each part, from the first.
pub fields_of_parts : (h : HeadInfo) (t0 t2 t3 t4 t5 t6 t7 : List ℕ) → t2 ≡ t0 ++ (codes " " ++ fin_word h.fin) → t3 ≡ t2 ++ (codes " " ++ op_word h.op ++ codes " ")
    → t4 ≡ t3 ++ key_text h.key → t5 ≡ t4 ++ codes " " → t6 ≡ t5 ++ decimal h.len → t7 ≡ t6 ++ (form_text h.form ++ codes "\n") → t7 ≡ t0 ++ (codes " " ++ head_fields h ++ codes "\n")
fields_of_parts h t0 t2 t3 t4 t5 t6 t7 is2 is3 is4 is5 is6 is7 =
    is7 ∙ ap (λ (t : List ℕ). t ++ (form_text h.form ++ codes "\n")) (is6 ∙ ap (λ (t : List ℕ). t ++ decimal h.len) (is5 ∙ ap (λ (t : List ℕ). t ++ codes " ") (is4 ∙ ap (λ (t : List ℕ). t ++ key_text h.key)
    (is3 ∙ ap (λ (t : List ℕ). t ++ (codes " " ++ op_word h.op ++ codes " ")) is2))))
    ∙ one_after_another t0 (codes " ") (fin_word h.fin) (op_word h.op) (key_text h.key) (decimal h.len) (form_text h.form) (codes "\n")

fields_whole : (t0 place space fin op key len form end : List ℕ)
    → t0 ++ (place ++ (space ++ (fin ++ space ++ op ++ space ++ key ++ space ++ len ++ form) ++ end))
    ≡ t0 ++ (place ++ space ++ (fin ++ space ++ op ++ space ++ key ++ space ++ len ++ form) ++ end)
fields_whole t0 place space fin op key len form end = simp append_assoc

-- The texts after the offset and the fields.
pub line_of_parts : (h : HeadInfo) (t0 t1 t2 : List ℕ) → t1 ≡ t0 ++ decimal h.offset → t2 ≡ t1 ++ (codes " " ++ head_fields h ++ codes "\n") → t2 ≡ t0 ++ head_line h
line_of_parts h t0 t1 t2 is1 is2 =
    two t0 t1 t2 (decimal h.offset) (codes " " ++ head_fields h ++ codes "\n") is1 is2
    ∙ fields_whole t0 (decimal h.offset) (codes " ") (fin_word h.fin) (op_word h.op) (key_text h.key) (decimal h.len) (form_text h.form) (codes "\n")
