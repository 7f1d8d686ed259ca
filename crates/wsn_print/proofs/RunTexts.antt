-- Texts of which most bytes are copied as they are.
use Rattle.std.proofs.Common.{◌≡◌, inl, inr, ℕ, ◌+◌, ◌-◌, ◌*◌, ◌/◌, ◌%◌, ◌<◌, ◌≤◌, Bool, true, false, not, cond, ◌||◌, List, [], ◌∷◌, ◌++◌, length, take, drop, get_or, refl, sym, ap, ap₂, ◌∙◌, arith, append_assoc, append-nil, take-take, length-drop, eqb-true}
use Rattle.std.specs.Prelude.{suc, zero, Option, None, Some, flat_map, ◌==◌, if◌then◌else◌}
use Rattle.std.specs.List.{AllByRecursion, prefix_len}
use Rattle.std.proofs.lemmas.List.{drop-drop, take_all}
use Rattle.std.specs.Char.{encode_utf8}
use Rattle.std.proofs.lemmas.Bool.{cases_lt, or_cases}
use Rattle.std.proofs.lemmas.Bool.Decides.{nat_tests}
use Rattle.std.proofs.lemmas.Str.{encode_ascii, chars_from_encodes}
use Rattle.wsn_print.proofs.RunCharacters.{hidden_in, in_one_byte, in_two_bytes, in_three_bytes, in_four_bytes, none_in_continuation, none_hidden}
use Rattle.std.specs.Str.{IsUtf8, chars, encode_utf8_all}
use Rattle.hex.specs.Hex.{encode_with, encode_lower}
use Rattle.wsn_print.specs.declared.escapes.Escapes.{Escapes}
use Rattle.wsn_print.specs.declared.escapes.Escapes.TheVariants.{Comment, Quoted}
use Rattle.wsn_print.specs.EscapedText.{is_hidden, unicode_escape, ascii_escape, shown_character}
use Rattle.wsn_print.specs.Runs.{escaped, escaped_after, escaped_character, class_of, IsPlainUpTo, takes_backslash, hidden_of, hidden_at, written_of, more_of, escaped_byte}

-- A number's escape, in three parts.
pub escape_written : (t0 t1 t2 t3 : List ℕ) (a b : ℕ) → t1 ≡ t0 ++ 92 ∷ 117 ∷ [] → t2 ≡ t1 ++ encode_lower (a ∷ [])
    → t3 ≡ t2 ++ encode_lower (b ∷ []) → t3 ≡ t0 ++ 92 ∷ 117 ∷ encode_lower (a ∷ b ∷ [])
unfolding encode_with
escape_written t0 t1 t2 t3 a b is1 is2 is3 =
    is3 ∙ ap (λ (t : List ℕ). t ++ encode_lower (b ∷ [])) (is2 ∙ ap (λ (t : List ℕ). t ++ encode_lower (a ∷ [])) is1)
    ∙ ap (λ (t : List ℕ). t ++ encode_lower (b ∷ [])) (append_assoc t0 (92 ∷ 117 ∷ []) (encode_lower (a ∷ [])))
    ∙ append_assoc t0 (92 ∷ 117 ∷ encode_lower (a ∷ [])) (encode_lower (b ∷ []))

-- A character beyond U+FFFF in two escapes.
pub surrogates_written : (t0 t1 t2 : List ℕ) (high low : ℕ) → t1 ≡ t0 ++ unicode_escape high → t2 ≡ t1 ++ unicode_escape low
    → t2 ≡ t0 ++ (unicode_escape high ++ unicode_escape low)
surrogates_written t0 t1 t2 high low one two =
    two ∙ ap (λ (t : List ℕ). t ++ unicode_escape low) one ∙ append_assoc t0 (unicode_escape high) (unicode_escape low)

is_false : (a : Bool) → not a ≡ true → a ≡ false
is_false true isnt = absurd (cc isnt)
is_false false isnt = refl

written_alone : (escapes : Escapes) (b : ℕ) → takes_backslash escapes b ≡ false → escaped_byte escapes b ≡ b ∷ []
written_alone escapes b isnt = ap (λ (yes : Bool). if yes then 92 ∷ b ∷ [] else b ∷ []) isnt

-- A byte with which no hidden character begins is written by itself.
plain_first : (escapes : Escapes) (b : ℕ) (rest : List ℕ) → class_of b (get_or rest 0 0) ≡ 0
    → escaped escapes (b ∷ rest) ≡ escaped_byte escapes b ++ escaped escapes rest
plain_first escapes b rest plain =
    ap (λ (hidden : Option (ℕ × ℕ)). written_of escapes hidden b ++ escaped_after (more_of hidden) escapes rest)
    (none_hidden b (get_or rest 0 0) (get_or rest 1 0) (get_or rest 2 0) plain)

-- The first bytes of a text, as many as begin no hidden character.
pub plain_start : (escapes : Escapes) (text : List ℕ) (n : ℕ) → n ≤ length text → IsPlainUpTo n text
    → escaped escapes text ≡ flat_map (escaped_byte escapes) (take n text) ++ escaped escapes (drop n text)
plain_start escapes text zero within plain = refl
plain_start escapes [] (suc n) within plain = absurd (omega (arith, within))
plain_start escapes (b ∷ rest) (suc n) within plain =
    plain_first escapes b rest (plain 0 (omega arith))
    ∙ ap (λ (bs : List ℕ). escaped_byte escapes b ++ bs) (plain_start escapes rest n (omega (arith, within)) (λ i below. plain (suc i) (omega (arith, below))))
    ∙ sym (append_assoc (escaped_byte escapes b) (flat_map (escaped_byte escapes) (take n rest)) (escaped escapes (drop n rest)))

unmarked_next : (escapes : Escapes) (b : ℕ) (bytes : List ℕ)
    → (prefix_len (λ x. not (takes_backslash escapes x)) bytes ≡ length bytes → flat_map (escaped_byte escapes) bytes ≡ bytes)
    → (alone : Bool) → not (takes_backslash escapes b) ≡ alone
    → cond alone (1 + prefix_len (λ x. not (takes_backslash escapes x)) bytes) 0 ≡ suc (length bytes)
    → escaped_byte escapes b ++ flat_map (escaped_byte escapes) bytes ≡ b ∷ bytes
unmarked_next escapes b bytes later true is all =
    ap₂ (λ (xs ys : List ℕ). xs ++ ys) (written_alone escapes b (is_false _ is)) (later (omega (arith, all)))
unmarked_next escapes b bytes later false is all = absurd (omega (arith, all))

-- Bytes that take no backslash are copied.
pub unmarked : (escapes : Escapes) (bytes : List ℕ) → prefix_len (λ x. not (takes_backslash escapes x)) bytes ≡ length bytes
    → flat_map (escaped_byte escapes) bytes ≡ bytes
unmarked escapes [] alone = refl
unmarked escapes (b ∷ bytes) alone =
    unmarked_next escapes b bytes (λ all. unmarked escapes bytes all) (not (takes_backslash escapes b)) refl alone

one_or_two : (mark : Bool) (x n : ℕ) (bytes : List ℕ) → length bytes ≤ 2 * n
    → length ((if mark then 92 ∷ x ∷ [] else x ∷ []) ++ bytes) ≤ 2 * suc n
one_or_two true x n bytes few = omega (arith, few)
one_or_two false x n bytes few = omega (arith, few)

-- At most two bytes are written for each of those with which no hidden character begins.
pub few_bytes : (escapes : Escapes) (bytes : List ℕ) → length (flat_map (escaped_byte escapes) bytes) ≤ 2 * length bytes
few_bytes escapes [] = omega arith
few_bytes escapes (b ∷ bytes) =
    one_or_two (takes_backslash escapes b) b (length bytes) (flat_map (escaped_byte escapes) bytes) (few_bytes escapes bytes)

byte_by : (mark : Bool) (x m : ℕ) (t0 t1 t2 : List ℕ) → m ≡ cond mark 1 0 → t1 ≡ t0 ++ take m (92 ∷ []) → t2 ≡ t1 ++ x ∷ []
    → t2 ≡ t0 ++ (if mark then 92 ∷ x ∷ [] else x ∷ [])
byte_by true x m t0 t1 t2 is one two =
    two ∙ ap (λ (t : List ℕ). t ++ x ∷ []) (one ∙ ap (λ (k : ℕ). t0 ++ take k (92 ∷ [])) is) ∙ append_assoc t0 (92 ∷ []) (x ∷ [])
byte_by false x m t0 t1 t2 is one two =
    two ∙ ap (λ (t : List ℕ). t ++ x ∷ []) (one ∙ ap (λ (k : ℕ). t0 ++ take k (92 ∷ [])) is ∙ append-nil t0)

-- A byte is written in two steps: a backslash, if it takes one, and the byte.
pub byte_written : (escapes : Escapes) (x m : ℕ) (t0 t1 t2 : List ℕ) → m ≡ cond (takes_backslash escapes x) 1 0
    → t1 ≡ t0 ++ take m (92 ∷ []) → t2 ≡ t1 ++ x ∷ [] → t2 ≡ t0 ++ escaped_byte escapes x
byte_written escapes x m t0 t1 t2 is one two = byte_by (takes_backslash escapes x) x m t0 t1 t2 is one two

high_alone : (escapes : Escapes) (b : ℕ) → 128 ≤ b → escaped_byte escapes b ≡ b ∷ []
high_alone Comment b low = grind (arith, nat_tests, low)
high_alone Quoted b low = grind (arith, nat_tests, low)

-- All bytes continue a character.
abbrev AreContinuations : List ℕ → Type 0
AreContinuations = AllByRecursion (λ b. (128 ≤ b) × (b < 192))

-- They are copied.
copied_run : (escapes : Escapes) (run rest : List ℕ) → AreContinuations run → escaped escapes (run ++ rest) ≡ run ++ escaped escapes rest
copied_run escapes [] rest are = refl
copied_run escapes (b ∷ run) rest are =
    ap (λ (hidden : Option (ℕ × ℕ)). written_of escapes hidden b ++ escaped_after (more_of hidden) escapes (run ++ rest))
    (none_in_continuation b (get_or (run ++ rest) 0 0) (get_or (run ++ rest) 1 0) (get_or (run ++ rest) 2 0) are.0.0 are.0.1)
    ∙ ap₂ (λ (xs ys : List ℕ). xs ++ ys) (high_alone escapes b are.0.0) (copied_run escapes run rest are.1)

passes_next : (p : ℕ → Bool) (x n : ℕ) (xs : List ℕ) → (n ≤ prefix_len p xs → prefix_len p (take n xs) ≡ n)
    → (passed : Bool) → p x ≡ passed → suc n ≤ cond passed (1 + prefix_len p xs) 0
    → cond passed (1 + prefix_len p (take n xs)) 0 ≡ suc n
passes_next p x n xs later true is within = omega (arith, later (omega (arith, within)))
passes_next p x n xs later false is within = absurd (omega (arith, within))

-- Of a run that passes a test, the first elements do.
pub first_pass : (p : ℕ → Bool) (xs : List ℕ) (n : ℕ) → n ≤ prefix_len p xs → prefix_len p (take n xs) ≡ n
first_pass p xs zero within = refl
first_pass p [] (suc n) within = absurd (omega (arith, within))
first_pass p (x ∷ xs) (suc n) within = passes_next p x n xs (λ few. first_pass p xs n few) (p x) refl within

-- The first elements of a block that begins with a text.
pub starts_alike : (block text : List ℕ) (n k : ℕ) → take n block ≡ text → k ≤ n → take k block ≡ take k text
starts_alike block text n k is few = sym (take-take k n block few) ∙ ap (λ (xs : List ℕ). take k xs) is

passed_over : (n : ℕ) (escapes : Escapes) (text : List ℕ) → escaped_after n escapes text ≡ escaped escapes (drop n text)
passed_over zero escapes text = refl
passed_over (suc n) escapes [] = refl
passed_over (suc n) escapes (b ∷ text) = passed_over n escapes text

-- A text begins with a hidden character.
pub hidden_first : (escapes : Escapes) (text : List ℕ) (c more : ℕ) → 0 < length text
    → hidden_of (get_or text 0 0) (get_or text 1 0) (get_or text 2 0) (get_or text 3 0) ≡ Some (c, more)
    → escaped escapes text ≡ ascii_escape c ++ escaped escapes (drop (1 + more) text)
hidden_first escapes [] c more some is = absurd (omega (arith, some))
hidden_first escapes (b ∷ rest) c more some is =
    let next : suc more ≡ 1 + more = omega arith in
    ap (λ (hidden : Option (ℕ × ℕ)). written_of escapes hidden b ++ escaped_after (more_of hidden) escapes rest) is
    ∙ ap (λ (bs : List ℕ). ascii_escape c ++ bs)
    (passed_over more escapes rest ∙ ap (λ (n : ℕ). escaped escapes (drop n (b ∷ rest))) next)

-- A text begins with a character that isn't hidden, or a part of one.
pub other_first : (escapes : Escapes) (text : List ℕ) → 0 < length text
    → hidden_of (get_or text 0 0) (get_or text 1 0) (get_or text 2 0) (get_or text 3 0) ≡ None
    → escaped escapes text ≡ escaped_byte escapes (get_or text 0 0) ++ escaped escapes (drop 1 text)
other_first escapes [] some is = absurd (omega (arith, some))
other_first escapes (b ∷ rest) some is =
    ap (λ (hidden : Option (ℕ × ℕ)). written_of escapes hidden b ++ escaped_after (more_of hidden) escapes rest) is

-- What is written of the start of a text in two steps.
pub both_written : (escapes : Escapes) (text first second : List ℕ) (n m : ℕ) (held mid after : List ℕ)
    → mid ≡ held ++ first → after ≡ mid ++ second
    → escaped escapes text ≡ first ++ escaped escapes (drop n text)
    → escaped escapes (drop n text) ≡ second ++ escaped escapes (drop m (drop n text))
    → (more : List ℕ) × (after ≡ held ++ more) × (escaped escapes text ≡ more ++ escaped escapes (drop (n + m) text))
both_written escapes text first second n m held mid after one two is1 is2 = (
  first ++ second,
  two ∙ ap (λ (bs : List ℕ). bs ++ second) one ∙ append_assoc held first second,
  is1 ∙ ap (λ (bs : List ℕ). first ++ bs) (is2 ∙ ap (λ (bs : List ℕ). second ++ escaped escapes bs) (drop-drop m n text))
      ∙ sym (append_assoc first second (escaped escapes (drop (n + m) text))),
)

-- A slice to the end of a text.
pub rest_of : (n : ℕ) (text : List ℕ) → take (length text - n) (drop n text) ≡ drop n text
rest_of n text = take_all (length text - n) (drop n text) (omega (arith, length-drop n text))

-- ---- characters

-- a hidden character, of which some bytes are passed over, or one that isn't
hidden_or_not : (escapes : Escapes) (c b more : ℕ) (conts rest : List ℕ) (hidden : Bool)
    → hidden_at b (conts ++ rest) ≡ (if hidden then Some (c, more) else None)
    → drop more (conts ++ rest) ≡ rest → AreContinuations conts
    → escaped escapes (b ∷ conts ++ rest) ≡ (if hidden then ascii_escape c else escaped_byte escapes b ++ conts) ++ escaped escapes rest
hidden_or_not escapes c b more conts rest true is passed copied =
    ap (λ (hidden : Option (ℕ × ℕ)). written_of escapes hidden b ++ escaped_after (more_of hidden) escapes (conts ++ rest)) is
    ∙ ap (λ (bs : List ℕ). ascii_escape c ++ bs)
    (passed_over more escapes (conts ++ rest) ∙ ap (escaped escapes) passed)
hidden_or_not escapes c b more conts rest false is passed copied =
    ap (λ (hidden : Option (ℕ × ℕ)). written_of escapes hidden b ++ escaped_after (more_of hidden) escapes (conts ++ rest)) is
    ∙ ap (λ (bs : List ℕ). escaped_byte escapes b ++ bs) (copied_run escapes conts rest copied)
    ∙ sym (append_assoc (escaped_byte escapes b) conts (escaped escapes rest))

no_backslash : (c : ℕ) → 128 ≤ c → (c == 92) ≡ false
no_backslash c low = grind (arith, nat_tests)

no_mark : (c : ℕ) → 128 ≤ c → (c == 34 || c == 92) ≡ false
no_mark c low = grind (arith, nat_tests)

-- a character beyond ASCII
beyond_ascii : (escapes : Escapes) (c : ℕ) → 128 ≤ c
    → escaped_character escapes c ≡ (if is_hidden c then ascii_escape c else encode_utf8 c)
beyond_ascii Comment c low = ap (λ (mark : Bool). if mark then 92 ∷ c ∷ [] else shown_character c) (no_backslash c low)
beyond_ascii Quoted c low = ap (λ (mark : Bool). if mark then 92 ∷ c ∷ [] else shown_character c) (no_mark c low)

shown_ascii : (c : ℕ) → c < 128 → shown_character c ≡ (if is_hidden c then ascii_escape c else c ∷ [])
shown_ascii c low = ap (λ (bs : List ℕ). if is_hidden c then ascii_escape c else bs) (encode_ascii c low)

marked : (escapes : Escapes) (c : ℕ) → takes_backslash escapes c ≡ true → is_hidden c ≡ false
marked Comment c is = ap is_hidden (eqb-true c 92 is)
marked Quoted c is = elim (or_cases (c == 34) (c == 92) is) [
  | inl quote ↦ ap is_hidden (eqb-true c 34 quote)
  | inr backslash ↦ ap is_hidden (eqb-true c 92 backslash)
]

ascii_by : (c : ℕ) (mark : Bool) → (mark ≡ true → is_hidden c ≡ false) → c < 128
    → (if mark then 92 ∷ c ∷ [] else shown_character c)
    ≡ (if is_hidden c then ascii_escape c else (if mark then 92 ∷ c ∷ [] else c ∷ []) ++ [])
ascii_by c true visible low = sym (ap (λ (yes : Bool). if yes then ascii_escape c else 92 ∷ c ∷ []) (visible refl))
ascii_by c false visible low = shown_ascii c low

ascii_character : (escapes : Escapes) (c : ℕ) → c < 128
    → escaped_character escapes c ≡ (if is_hidden c then ascii_escape c else escaped_byte escapes c ++ [])
ascii_character Comment c low = ascii_by c (c == 92) (marked Comment c) low
ascii_character Quoted c low = ascii_by c (c == 34 || c == 92) (marked Quoted c) low

of_one_byte : (escapes : Escapes) (c : ℕ) (rest : List ℕ) → c < 128
    → escaped escapes (c ∷ rest) ≡ escaped_character escapes c ++ escaped escapes rest
of_one_byte escapes c rest low =
    hidden_or_not escapes c c 0 [] rest (is_hidden c) (in_one_byte c (get_or rest 0 0) (get_or rest 1 0) (get_or rest 2 0) low) refl tt
    ∙ ap (λ (bs : List ℕ). bs ++ escaped escapes rest) (sym (ascii_character escapes c low))

two_encoded : (c : ℕ) → 128 ≤ c → c < 2048 → encode_utf8 c ≡ (192 + c / 64) ∷ (128 + c % 64) ∷ []
unfolding encode_utf8
two_encoded c low high = grind (arith, nat_tests, low, high)

three_encoded : (c : ℕ) → 2048 ≤ c → c < 65536
    → encode_utf8 c ≡ (224 + c / 4096) ∷ (128 + c / 64 % 64) ∷ (128 + c % 64) ∷ []
unfolding encode_utf8
three_encoded c low high = grind (arith, nat_tests, low, high)

four_encoded : (c : ℕ) → 65536 ≤ c
    → encode_utf8 c ≡ (240 + c / 262144) ∷ (128 + c / 4096 % 64) ∷ (128 + c / 64 % 64) ∷ (128 + c % 64) ∷ []
unfolding encode_utf8
four_encoded c low = grind (arith, nat_tests, low)

of_more_bytes : (escapes : Escapes) (c b more : ℕ) (conts rest : List ℕ) → 128 ≤ c → 128 ≤ b → encode_utf8 c ≡ b ∷ conts
    → hidden_at b (conts ++ rest) ≡ hidden_in c more → drop more (conts ++ rest) ≡ rest
    → AreContinuations conts
    → escaped escapes (encode_utf8 c ++ rest) ≡ escaped_character escapes c ++ escaped escapes rest
of_more_bytes escapes c b more conts rest low high encoded is passed copied =
    ap (λ (bs : List ℕ). escaped escapes (bs ++ rest)) encoded
    ∙ hidden_or_not escapes c b more conts rest (is_hidden c) is passed copied
    ∙ ap (λ (bs : List ℕ). (if is_hidden c then ascii_escape c else bs) ++ escaped escapes rest)
    (ap (λ (bs : List ℕ). bs ++ conts) (high_alone escapes b high) ∙ sym encoded)
    ∙ ap (λ (bs : List ℕ). bs ++ escaped escapes rest) (sym (beyond_ascii escapes c low))

of_two_bytes : (escapes : Escapes) (c : ℕ) (rest : List ℕ) → 128 ≤ c → c < 2048
    → escaped escapes (encode_utf8 c ++ rest) ≡ escaped_character escapes c ++ escaped escapes rest
of_two_bytes escapes c rest low high =
    of_more_bytes escapes c (192 + c / 64) 1 ((128 + c % 64) ∷ []) rest low (omega arith) (two_encoded c low high)
    (in_two_bytes c (get_or rest 0 0) (get_or rest 1 0) low high) refl ((omega arith, omega arith), tt)

of_three_bytes : (escapes : Escapes) (c : ℕ) (rest : List ℕ) → 2048 ≤ c → c < 65536
    → escaped escapes (encode_utf8 c ++ rest) ≡ escaped_character escapes c ++ escaped escapes rest
of_three_bytes escapes c rest low high =
    of_more_bytes escapes c (224 + c / 4096) 2 ((128 + c / 64 % 64) ∷ (128 + c % 64) ∷ []) rest (omega arith) (omega arith)
    (three_encoded c low high) (in_three_bytes c (get_or rest 0 0) low high) refl
    ((omega arith, omega arith), ((omega arith, omega arith), tt))

of_four_bytes : (escapes : Escapes) (c : ℕ) (rest : List ℕ) → 65536 ≤ c
    → escaped escapes (encode_utf8 c ++ rest) ≡ escaped_character escapes c ++ escaped escapes rest
of_four_bytes escapes c rest low =
    of_more_bytes escapes c (240 + c / 262144) 3 ((128 + c / 4096 % 64) ∷ (128 + c / 64 % 64) ∷ (128 + c % 64) ∷ []) rest (omega arith) (omega arith)
    (four_encoded c low) (in_four_bytes c low) refl
    ((omega arith, omega arith), ((omega arith, omega arith), ((omega arith, omega arith), tt)))

of_ascii : (escapes : Escapes) (c : ℕ) (rest : List ℕ) → c < 128
    → escaped escapes (encode_utf8 c ++ rest) ≡ escaped_character escapes c ++ escaped escapes rest
of_ascii escapes c rest low = ap (λ (bs : List ℕ). escaped escapes (bs ++ rest)) (encode_ascii c low) ∙ of_one_byte escapes c rest low

character_written : (escapes : Escapes) (c : ℕ) (rest : List ℕ)
    → escaped escapes (encode_utf8 c ++ rest) ≡ escaped_character escapes c ++ escaped escapes rest
character_written escapes c rest = elim (cases_lt c 128) [
  | inl one ↦ of_ascii escapes c rest one
  | inr more ↦ elim (cases_lt c 2048) [
    | inl two ↦ of_two_bytes escapes c rest more two
    | inr most ↦ elim (cases_lt c 65536) [
      | inl three ↦ of_three_bytes escapes c rest most three
      | inr four ↦ of_four_bytes escapes c rest four
    ]
  ]
]

characters_written : (escapes : Escapes) (cs : List ℕ) → escaped escapes (encode_utf8_all cs) ≡ flat_map (escaped_character escapes) cs
characters_written escapes [] = refl
characters_written escapes (c ∷ cs) =
    character_written escapes c (encode_utf8_all cs)
    ∙ ap (λ (bs : List ℕ). escaped_character escapes c ++ bs) (characters_written escapes cs)

-- A text in UTF-8 is written character by character.
pub text_written : (escapes : Escapes) (text : List ℕ) → IsUtf8 text → escaped escapes text ≡ flat_map (escaped_character escapes) (chars text)
text_written escapes text utf8 =
    ap (escaped escapes) (sym utf8.1.1) ∙ characters_written escapes utf8.0
    ∙ ap (flat_map (escaped_character escapes)) (chars_from_encodes utf8.0 text utf8 utf8.1.1)
