-- A quoted text is a JSON string, and a JSON string has one text.
use Rattle.std.proofs.Common.{◌≡◌, ◌≢◌, ℕ, zero, suc, ◌+◌, ◌*◌, ◌/◌, ◌%◌, ◌<◌, ◌≤◌, inl, inr, Bool, true, false, ◌==◌, ◌||◌, if◌then◌else◌, None, Some, Ok, List, [], ◌∷◌, ◌++◌, length, take, drop, codes, refl, sym, ap, ◌∙◌, subst, arith, append_assoc, length-append}
use Rattle.std.specs.Prelude.{◌-◌, ◌⊎◌, nat_lt, flat_map}
use Rattle.std.proofs.Math.Seq.{take-append_seam, drop-append_seam}
use Rattle.std.proofs.lemmas.Bool.{cases_Bool, or_parts}
use Rattle.std.proofs.lemmas.Bool.Decides.{nat_tests}
use Rattle.std.proofs.lemmas.List.{append_cancel_right}
use Rattle.std.proofs.lemmas.Str.{encode_same, char_from_byte, length-encode, len_utf8_bounds, encodes-chars}
use Rattle.std.specs.Char.{encode_utf8}
use Rattle.std.specs.Str.{chars, IsUtf8, encode_utf8_all}
use Rattle.hex.specs.Hex.{IsBytes, decode_of, encode_lower}
use Rattle.hex.proofs.HexLemmas.{decode_of-encode_lower, decode_of-ok}
use Rattle.wsn_print.specs.EscapedText.{is_from, is_hidden, unicode_escape, ascii_escape, shown_character, quoted_character, quoted}
use Rattle.wsn_shown_text.specs.QuotedTexts.{unescaped, IsPlain, IsShortEscape, IsUnitEscape, IsUnicodeEscape, IsOfSurrogates, IsSurrogatePair, IsJsonCharacter, AreJsonCharacters, IsJsonString}
use Rattle.wsn_print.proofs.HiddenRanges.{below, hidden_scalar}

-- ---- a quoted text is one

pub two_bytes : (a b : ℕ) → a < 256 → b < 256 → IsBytes (a ∷ b ∷ [])
two_bytes a b fits_a fits_b zero = fits_a
two_bytes a b fits_a fits_b (suc zero) = fits_b
two_bytes a b fits_a fits_b (suc (suc i)) = omega arith

from_space : (c : ℕ) → is_from 0x00 0x1f c ≡ false → 0x20 ≤ c
from_space c isnt = grind (arith, nat_tests, isnt)

visible_from : (c : ℕ) → is_hidden c ≡ false → 0x20 ≤ c
visible_from c visible = from_space c (or_parts (is_from 0x00 0x1f c) _ visible).0

no_quote : (c : ℕ) → (c == 34 || c == 92) ≡ false → (c ≢ 34) × (c ≢ 92)
no_quote c test =
    let parts = or_parts (c == 34) (c == 92) test in
    (grind (arith, nat_tests, parts.0), grind (arith, nat_tests, parts.1))

for_itself : (c : ℕ) → (c == 34 || c == 92) ≡ true → unescaped c ≡ Some c
for_itself c test = rw test refl

pub escape_is : (c : ℕ) → c < 65536 → IsUnitEscape c (unicode_escape c)
escape_is c fits =
    (c / 256, c % 256, encode_lower (c / 256 ∷ c % 256 ∷ []), decode_of-encode_lower (c / 256 ∷ c % 256 ∷ []) (two_bytes (c / 256) (c % 256) (omega arith) (omega arith)), omega arith, refl)

pub surrogates_of : (c : ℕ) → 0x10000 ≤ c → c < 0x110000 → IsOfSurrogates (0xd800 + (c - 0x10000) / 0x400) (0xdc00 + (c - 0x10000) % 0x400) c
surrogates_of c least most = (omega arith, omega arith, omega arith, omega arith, omega arith)

pair_is : (c : ℕ) → 0x10000 ≤ c → c < 0x110000
    → IsSurrogatePair c (unicode_escape (0xd800 + (c - 0x10000) / 0x400) ++ unicode_escape (0xdc00 + (c - 0x10000) % 0x400))
pair_is c least most = (
  0xd800 + (c - 0x10000) / 0x400,
  0xdc00 + (c - 0x10000) % 0x400,
  surrogates_of c least most,
  (
    unicode_escape (0xd800 + (c - 0x10000) / 0x400),
    unicode_escape (0xdc00 + (c - 0x10000) % 0x400),
    refl,
    escape_is (0xd800 + (c - 0x10000) / 0x400) (omega arith),
    escape_is (0xdc00 + (c - 0x10000) % 0x400) (omega arith),
  ),
)

pub at_least : (c : ℕ) → nat_lt c 0x10000 ≡ false → 0x10000 ≤ c
at_least c test = grind (arith, nat_tests)

number_by : (c : ℕ) (few : Bool) → nat_lt c 0x10000 ≡ few → (0xd800 ≤ c → 0xe000 ≤ c) → c < 0x110000
    → let bytes = if few then unicode_escape c else unicode_escape (0xd800 + (c - 0x10000) / 0x400) ++ unicode_escape (0xdc00 + (c - 0x10000) % 0x400) in
    IsUnicodeEscape c bytes ⊎ IsSurrogatePair c bytes
number_by c true test none most = inl (escape_is c (below c 0x10000 test), λ surrogate. absurd (omega (arith, none surrogate.0, surrogate.1)))
number_by c false test none most = inr (pair_is c (at_least c test) most)

-- A character of Unicode by its number.
pub number_is : (c : ℕ) → (0xd800 ≤ c → 0xe000 ≤ c) → c < 0x110000 → IsUnicodeEscape c (ascii_escape c) ⊎ IsSurrogatePair c (ascii_escape c)
number_is c none most = number_by c (nat_lt c 0x10000) refl none most

shown_is : (c : ℕ) → (c == 34 || c == 92) ≡ false → IsJsonCharacter c (shown_character c)
shown_is c plain = elim (cases_Bool (is_hidden c)) [
  | inl hidden ↦
      let is : ascii_escape c ≡ shown_character c = sym (ap (λ (b : Bool). if b then ascii_escape c else encode_utf8 c) hidden) in
      let scalar = hidden_scalar c hidden in
      inr (inr (subst (λ (bytes : List ℕ). IsUnicodeEscape c bytes ⊎ IsSurrogatePair c bytes) is (number_is c scalar.0 scalar.1)))
  | inr visible ↦
      let no_mark = no_quote c plain in
      inl (visible_from c visible, no_mark.0, no_mark.1, ap (λ (b : Bool). if b then ascii_escape c else encode_utf8 c) visible)
]

quoted_is : (c : ℕ) → IsJsonCharacter c (quoted_character c)
quoted_is c = elim (cases_Bool (c == 34 || c == 92)) [
  | inl escaped ↦ inr (inl (c, for_itself c escaped, ap (λ (b : Bool). if b then 92 ∷ c ∷ [] else shown_character c) escaped))
  | inr plain ↦
      let is : shown_character c ≡ quoted_character c = sym (ap (λ (b : Bool). if b then 92 ∷ c ∷ [] else shown_character c) plain) in
      subst (IsJsonCharacter c) is (shown_is c plain)
]

all_quoted : (cs : List ℕ) → AreJsonCharacters cs (flat_map quoted_character cs)
all_quoted [] = refl
all_quoted (c ∷ cs) = (quoted_character c, flat_map quoted_character cs, refl, quoted_is c, all_quoted cs)

pub quoted_is_json : (text : List ℕ) → IsJsonString text (quoted text)
quoted_is_json text =
    record { inner = flat_map quoted_character (chars text); between = refl; characters = all_quoted (chars text) }

-- ---- a JSON string has one text

-- A character as it is doesn't begin with a backslash.
pub plain_first : (c : ℕ) (bytes rest more : List ℕ) → IsPlain c bytes → bytes ++ rest ≡ 92 ∷ more → ⊥
plain_first c bytes rest more plain same =
    let front : 92 ∷ more ≡ encode_utf8 c ++ rest = sym same ∙ ap (λ (bs : List ℕ). bs ++ rest) plain.3 in
    plain.2 (char_from_byte (92 ∷ more) rest c front (omega arith) (omega arith))

pub split : (xs ys r t : List ℕ) → length xs ≡ length ys → xs ++ r ≡ ys ++ t → (xs ≡ ys) × (r ≡ t)
split xs ys r t size same = (
  sym (take-append_seam xs r) ∙ ap (take (length xs)) same ∙ ap (λ (n : ℕ). take n (ys ++ t)) size ∙ take-append_seam ys t,
  sym (drop-append_seam xs r) ∙ ap (drop (length xs)) same ∙ ap (λ (n : ℕ). drop n (ys ++ t)) size ∙ drop-append_seam ys t,
)

some_same : (c d : ℕ) → Some c ≡ Some d → c ≡ d
some_same c d e = cc

both_short : (c d l m : ℕ) (r t : List ℕ) → unescaped l ≡ Some c → unescaped m ≡ Some d → 92 ∷ l ∷ r ≡ 92 ∷ m ∷ t → (c ≡ d) × (r ≡ t)
both_short c d l m r t is_c is_d same =
    let letters : l ≡ m = cc in
    (some_same c d (sym is_c ∙ ap unescaped letters ∙ is_d), cc)

pub short_or_unicode : (c l : ℕ) (r t : List ℕ) → unescaped l ≡ Some c → 92 ∷ l ∷ r ≡ 92 ∷ 117 ∷ t → ⊥
short_or_unicode c l r t is_c same =
    let letter : l ≡ 117 = cc in
    let none : None ≡ Some c = sym (ap unescaped letter) ∙ is_c in
    cc

both_unicode : (c d high low h l : ℕ) (one two r t : List ℕ) → decode_of one ≡ Ok (high ∷ low ∷ []) → decode_of two ≡ Ok (h ∷ l ∷ [])
    → c ≡ high * 256 + low → d ≡ h * 256 + l → 92 ∷ 117 ∷ (one ++ r) ≡ 92 ∷ 117 ∷ (two ++ t) → (c ≡ d) × (r ≡ t)
both_unicode c d high low h l one two r t reads_one reads_two is_c is_d same =
    let size : length one ≡ length two = (decode_of-ok one (high ∷ low ∷ []) reads_one).2 ∙ sym (decode_of-ok two (h ∷ l ∷ []) reads_two).2 in
    let following : one ++ r ≡ two ++ t = cc in
    let parts = split one two r t size following in
    let bytes : Ok (high ∷ low ∷ []) ≡ Ok (h ∷ l ∷ []) = sym reads_one ∙ ap decode_of parts.0 ∙ reads_two in
    let same_high : high ≡ h = cc in
    let same_low : low ≡ l = cc in
    (omega (arith, is_c, is_d, same_high, same_low), parts.1)

-- The escapes of a number and of two surrogates, with what follows them.
pub unit_bytes : (unit : ℕ) (p r : List ℕ) (is : IsUnitEscape unit p) → p ++ r ≡ 92 ∷ 117 ∷ (is.2 ++ r)
unit_bytes unit p r is = ap (λ (bs : List ℕ). bs ++ r) is.5

pub pair_bytes : (c : ℕ) (p r : List ℕ) (is : IsSurrogatePair c p) → p ++ r ≡ is.3.0 ++ (is.3.1 ++ r)
pair_bytes c p r is = ap (λ (bs : List ℕ). bs ++ r) is.3.2 ∙ append_assoc is.3.0 is.3.1 r

pair_begins : (c : ℕ) (p r : List ℕ) (is : IsSurrogatePair c p) → p ++ r ≡ 92 ∷ 117 ∷ (is.3.3.2 ++ (is.3.1 ++ r))
pair_begins c p r is = pair_bytes c p r is ∙ unit_bytes is.0 is.3.0 (is.3.1 ++ r) is.3.3

pub one_unit : (c d : ℕ) (p q r t : List ℕ) → IsUnitEscape c p → IsUnitEscape d q → p ++ r ≡ q ++ t → (c ≡ d) × (r ≡ t)
one_unit c d p q r t a b same =
    both_unicode c d a.0 a.1 b.0 b.1 a.2 b.2 r t a.3 b.3 a.4 b.4 (sym (unit_bytes c p r a) ∙ same ∙ unit_bytes d q t b)

-- Where an escaped character begins, no two surrogates do.
one_or_two : (c d : ℕ) (p q r t : List ℕ) → IsUnicodeEscape c p → IsSurrogatePair d q → p ++ r ≡ q ++ t → ⊥
one_or_two c d p q r t one pair same =
    let first : c ≡ pair.0 = (one_unit c pair.0 p pair.3.0 r (pair.3.1 ++ t) one.0 pair.3.3 (same ∙ pair_bytes d q t pair)).0 in
    one.1 (omega (arith, first, pair.2.0), omega (arith, first, pair.2.1))

both_pairs : (c d : ℕ) (p q r t : List ℕ) → IsSurrogatePair c p → IsSurrogatePair d q → p ++ r ≡ q ++ t → (c ≡ d) × (r ≡ t)
both_pairs c d p q r t a b same =
    let high = one_unit a.0 b.0 a.3.0 b.3.0 (a.3.1 ++ r) (b.3.1 ++ t) a.3.3 b.3.3 (sym (pair_bytes c p r a) ∙ same ∙ pair_bytes d q t b) in
    let low = one_unit a.1 b.1 a.3.1 b.3.1 r t a.3.4 b.3.4 high.1 in
    (omega (arith, a.2.4, b.2.4, high.0, low.0), low.1)

-- an escaped character's first two bytes
pub escape_begins : (c : ℕ) (p r : List ℕ) → IsUnicodeEscape c p ⊎ IsSurrogatePair c p → (more : List ℕ) × (p ++ r ≡ 92 ∷ 117 ∷ more)
escape_begins c p r (inl a) = (a.0.2 ++ r, unit_bytes c p r a.0)
escape_begins c p r (inr a) = (a.3.3.2 ++ (a.3.1 ++ r), pair_begins c p r a)

both_escapes : (c d : ℕ) (p q r t : List ℕ) → IsUnicodeEscape c p ⊎ IsSurrogatePair c p → IsUnicodeEscape d q ⊎ IsSurrogatePair d q → p ++ r ≡ q ++ t → (c ≡ d) × (r ≡ t)
both_escapes c d p q r t (inl a) (inl b) same = one_unit c d p q r t a.0 b.0 same
both_escapes c d p q r t (inl a) (inr b) same = absurd (one_or_two c d p q r t a b same)
both_escapes c d p q r t (inr a) (inl b) same = absurd (one_or_two d c q p t r b a (sym same))
both_escapes c d p q r t (inr a) (inr b) same = both_pairs c d p q r t a b same

plain_or_escape : (c d : ℕ) (p q r t : List ℕ) → IsPlain c p → IsUnicodeEscape d q ⊎ IsSurrogatePair d q → p ++ r ≡ q ++ t → ⊥
plain_or_escape c d p q r t a b same =
    let front = escape_begins d q t b in
    plain_first c p r (117 ∷ front.0) a (same ∙ front.1)

short_or_escape : (c d : ℕ) (p q r t : List ℕ) → IsShortEscape c p → IsUnicodeEscape d q ⊎ IsSurrogatePair d q → p ++ r ≡ q ++ t → ⊥
short_or_escape c d p q r t a b same =
    let front = escape_begins d q t b in
    short_or_unicode c a.0 r front.0 a.1 (ap (λ (bs : List ℕ). bs ++ r) (sym a.2) ∙ same ∙ front.1)

pub one_character : (c d : ℕ) (p q r t : List ℕ) → IsJsonCharacter c p → IsJsonCharacter d q → p ++ r ≡ q ++ t → (c ≡ d) × (r ≡ t)
one_character c d p q r t (inl a) (inl b) same =
    encode_same c d r t (ap (λ (bs : List ℕ). bs ++ r) (sym a.3) ∙ same ∙ ap (λ (bs : List ℕ). bs ++ t) b.3)
one_character c d p q r t (inl a) (inr (inl b)) same =
    absurd (plain_first c p r (b.0 ∷ t) a (same ∙ ap (λ (bs : List ℕ). bs ++ t) b.2))
one_character c d p q r t (inl a) (inr (inr b)) same = absurd (plain_or_escape c d p q r t a b same)
one_character c d p q r t (inr (inl a)) (inl b) same =
    absurd (plain_first d q t (a.0 ∷ r) b (sym same ∙ ap (λ (bs : List ℕ). bs ++ r) a.2))
one_character c d p q r t (inr (inr a)) (inl b) same = absurd (plain_or_escape d c q p t r b a (sym same))
one_character c d p q r t (inr (inl a)) (inr (inl b)) same =
    both_short c d a.0 b.0 r t a.1 b.1 (ap (λ (bs : List ℕ). bs ++ r) (sym a.2) ∙ same ∙ ap (λ (bs : List ℕ). bs ++ t) b.2)
one_character c d p q r t (inr (inl a)) (inr (inr b)) same = absurd (short_or_escape c d p q r t a b same)
one_character c d p q r t (inr (inr a)) (inr (inl b)) same = absurd (short_or_escape d c q p t r b a (sym same))
one_character c d p q r t (inr (inr a)) (inr (inr b)) same = both_escapes c d p q r t a b same

some_bytes : (c : ℕ) (bytes rest : List ℕ) → IsJsonCharacter c bytes → bytes ++ rest ≡ [] → ⊥
some_bytes c bytes rest (inl plain) none =
    let size : length (encode_utf8 c ++ rest) ≡ 0 = ap length (ap (λ (bs : List ℕ). bs ++ rest) (sym plain.3) ∙ none) in
    absurd (omega (arith, size, length-append (encode_utf8 c) rest, length-encode c, (len_utf8_bounds c).0))
some_bytes c bytes rest (inr (inl short)) none =
    let front : 92 ∷ short.0 ∷ rest ≡ [] = ap (λ (bs : List ℕ). bs ++ rest) (sym short.2) ∙ none in
    cc
some_bytes c bytes rest (inr (inr escape)) none =
    let begins = escape_begins c bytes rest escape in
    let front : 92 ∷ 117 ∷ begins.0 ≡ [] = sym begins.1 ∙ none in
    cc

same_characters : (cs ds bytes : List ℕ) → AreJsonCharacters cs bytes → AreJsonCharacters ds bytes → cs ≡ ds
same_characters [] [] bytes a b = refl
same_characters [] (d ∷ ds) bytes a b = absurd (some_bytes d b.0 b.1 b.3 (sym b.2 ∙ a))
same_characters (c ∷ cs) [] bytes a b = absurd (some_bytes c a.0 a.1 a.3 (sym a.2 ∙ b))
same_characters (c ∷ cs) (d ∷ ds) bytes a b =
    let same = one_character c d a.0 b.0 a.1 b.1 a.3 b.3 (sym a.2 ∙ b.2) in
    let following : cs ≡ ds = same_characters cs ds a.1 a.4 (subst (AreJsonCharacters ds) (sym same.1) b.4) in
    let first : c ≡ d = same.0 in
    cc

pub one_text : (one other bytes : List ℕ) → IsUtf8 one → IsUtf8 other → IsJsonString one bytes → IsJsonString other bytes → one ≡ other
one_text one other bytes utf8_one utf8_other a b =
    let whole : codes "\"" ++ a.inner ++ codes "\"" ≡ codes "\"" ++ b.inner ++ codes "\"" = sym a.between ∙ b.between in
    let inside : a.inner ≡ b.inner = append_cancel_right a.inner b.inner (codes "\"") (ap (drop 1) whole) in
    let same : chars one ≡ chars other = same_characters (chars one) (chars other) b.inner (subst (AreJsonCharacters (chars one)) inside a.characters) b.characters in
    sym (encodes-chars one utf8_one) ∙ ap encode_utf8_all same ∙ encodes-chars other utf8_other
