-- Nothing of a quoted text or of a comment is hidden.
use Rattle.std.proofs.Common.{◌≡◌, ℕ, zero, suc, ◌+◌, ◌-◌, ◌/◌, ◌%◌, ◌<◌, ◌≤◌, inl, inr, Bool, true, false, ◌==◌, ◌&&◌, ◌||◌, if◌then◌else◌, List, [], ◌∷◌, ◌++◌, length, take, slice_index, codes, refl, sym, ap, ◌∙◌, subst, arith, eqb-true}
use Rattle.std.specs.Prelude.{nat_lt, flat_map}
use Rattle.std.proofs.Math.Seq.{take-length}
use Rattle.std.proofs.lemmas.Bool.{cases_Bool, and_parts, or_cases, cases_lt}
use Rattle.std.proofs.lemmas.Bool.Decides.{nat_tests}
use Rattle.std.proofs.lemmas.List.{append-nil}
use Rattle.std.proofs.lemmas.Str.{IsUtf8-nil, IsUtf8-append, IsUtf8-encode, IsUtf8-from_ascii, IsUtf8-from_is_utf8, utf8_valid_len-IsUtf8, chars-nil, chars-append, chars-encodes, chars-IsAscii, scalars-chars}
use Rattle.std.proofs.lemmas.Str.Ascii.{IsAscii-nil, IsAscii-cons}
use Rattle.std.specs.Char.{encode_utf8, IsScalar}
use Rattle.std.specs.List.{AllByRecursion}
use Rattle.std.specs.Str.{chars, IsAscii, IsUtf8, all_scalars, is_utf8}
use Rattle.std.specs.Str.Lossy.{utf8_valid_len, valid_len_up_to}
use Rattle.hex.specs.Hex.{encode_with, encode_lower, lower_digits}
use Rattle.wsn_wire.specs.Frame.{IsBytes}
use Rattle.wsn_print.specs.EscapedText.{is_from, is_hidden, unicode_escape, ascii_escape, shown_character, comment_character, quoted_character, quoted, comment_byte, comment_text}
use Rattle.wsn_shown_text.specs.QuotedTexts.{IsAllVisible}
use Rattle.wsn_print.proofs.HiddenRanges.{below, hidden_scalar, printable_shown}

-- ---- texts one after another

all_append : (xs ys : List ℕ) → AllByRecursion (λ c. is_hidden c ≡ false) xs → AllByRecursion (λ c. is_hidden c ≡ false) ys → AllByRecursion (λ c. is_hidden c ≡ false) (xs ++ ys)
all_append [] ys one two = two
all_append (x ∷ xs) ys one two = (one.0, all_append xs ys one.1 two)

pub visible_append : (xs ys : List ℕ) → IsAllVisible xs → IsAllVisible ys → IsAllVisible (xs ++ ys)
visible_append xs ys one two = (
  IsUtf8-append xs ys one.0 two.0,
  subst (AllByRecursion (λ c. is_hidden c ≡ false)) (sym (chars-append xs ys one.0)) (all_append (chars xs) (chars ys) one.1 two.1),
)

visible_none : IsAllVisible []
visible_none = (IsUtf8-nil, subst (AllByRecursion (λ c. is_hidden c ≡ false)) (sym chars-nil) tt)

visible_each : (f : ℕ → List ℕ) (xs : List ℕ) → AllByRecursion (λ x. IsAllVisible (f x)) xs → IsAllVisible (flat_map f xs)
visible_each f [] each = visible_none
visible_each f (x ∷ xs) each = visible_append (f x) (flat_map f xs) each.0 (visible_each f xs each.1)

-- ---- printable ASCII

abbrev pub IsPrintable : ℕ → Type 0
IsPrintable b = (0x20 ≤ b) × (b ≤ 0x7e)

printable_visible : (b : ℕ) → IsPrintable b → is_hidden b ≡ false
printable_visible b range = elim (cases_Bool (is_hidden b)) [
  | inl hidden ↦ absurd (printable_shown b range.0 range.1 hidden)
  | inr visible ↦ visible
]

printable_ascii : (bytes : List ℕ) → AllByRecursion IsPrintable bytes → IsAscii bytes
printable_ascii [] each = IsAscii-nil
printable_ascii (b ∷ bytes) each = IsAscii-cons b bytes (omega (arith, each.0.1)) (printable_ascii bytes each.1)

printable_characters : (bytes : List ℕ) → AllByRecursion IsPrintable bytes → AllByRecursion (λ c. is_hidden c ≡ false) bytes
printable_characters [] each = tt
printable_characters (b ∷ bytes) each = (printable_visible b each.0, printable_characters bytes each.1)

pub visible_ascii : (bytes : List ℕ) → AllByRecursion IsPrintable bytes → IsAllVisible bytes
visible_ascii bytes each =
    let ascii = printable_ascii bytes each in
    (IsUtf8-from_ascii bytes ascii, subst (AllByRecursion (λ c. is_hidden c ≡ false)) (sym (chars-IsAscii bytes ascii)) (printable_characters bytes each))

-- ---- hexadecimal digits

abbrev all_printable : ℕ → Bool
all_printable zero = true
all_printable (suc n) = is_from 0x20 0x7e (slice_index lower_digits n) && all_printable n

digit_passes : (n k : ℕ) → all_printable n ≡ true → k < n → is_from 0x20 0x7e (slice_index lower_digits k) ≡ true
digit_passes zero k passes below = absurd (omega arith)
digit_passes (suc n) k passes below =
    let parts = and_parts (is_from 0x20 0x7e (slice_index lower_digits n)) (all_printable n) passes in
    elim (cases_lt k n) [
      | inl lower ↦ digit_passes n k parts.1 lower
      | inr top ↦
          let e : k ≡ n = omega arith in
          rw e parts.0
    ]

from_test : (b : ℕ) → is_from 0x20 0x7e b ≡ true → IsPrintable b
from_test b test = (grind (arith, nat_tests), grind (arith, nat_tests))

digit : (k : ℕ) → k < 16 → IsPrintable (slice_index lower_digits k)
digit k below = from_test (slice_index lower_digits k) (digit_passes 16 k refl below)

pub digits_printable : (bytes : List ℕ) → IsBytes bytes → AllByRecursion IsPrintable (encode_lower bytes)
unfolding encode_with
digits_printable [] fits = tt
digits_printable (b ∷ bytes) fits =
    let fits_b : b < 256 = fits.0 in
    (digit (b / 16) (omega arith), (digit (b % 16) (omega arith), digits_printable bytes fits.1))

-- ---- characters

escape_visible : (c : ℕ) → c < 65536 → IsAllVisible (unicode_escape c)
escape_visible c fits =
    visible_append (codes "\\u") (encode_lower (c / 256 ∷ c % 256 ∷ []))
    (visible_ascii (codes "\\u") ((omega arith, omega arith), ((omega arith, omega arith), tt)))
    (visible_ascii (encode_lower (c / 256 ∷ c % 256 ∷ [])) (digits_printable (c / 256 ∷ c % 256 ∷ []) (omega arith, (omega arith, tt))))

number_by : (c : ℕ) (few : Bool) → nat_lt c 0x10000 ≡ few → c < 0x110000
    → IsAllVisible (if few then unicode_escape c else unicode_escape (0xd800 + (c - 0x10000) / 0x400) ++ unicode_escape (0xdc00 + (c - 0x10000) % 0x400))
number_by c true test most = escape_visible c (below c 0x10000 test)
number_by c false test most =
    visible_append (unicode_escape (0xd800 + (c - 0x10000) / 0x400)) (unicode_escape (0xdc00 + (c - 0x10000) % 0x400))
    (escape_visible (0xd800 + (c - 0x10000) / 0x400) (omega arith)) (escape_visible (0xdc00 + (c - 0x10000) % 0x400) (omega arith))

number_visible : (c : ℕ) → c < 0x110000 → IsAllVisible (ascii_escape c)
number_visible c most = number_by c (nat_lt c 0x10000) refl most

pub plain_visible : (c : ℕ) → IsScalar c → is_hidden c ≡ false → IsAllVisible (encode_utf8 c)
plain_visible c scalar visible =
    let scalars : all_scalars (c ∷ []) ≡ true = rw scalar refl in
    let is : chars (encode_utf8 c) ≡ c ∷ [] = ap chars (sym (append-nil (encode_utf8 c))) ∙ chars-encodes (c ∷ []) scalars in
    (IsUtf8-encode c scalar, subst (AllByRecursion (λ c. is_hidden c ≡ false)) (sym is) (visible, tt))

shown_visible : (c : ℕ) → IsScalar c → IsAllVisible (shown_character c)
shown_visible c scalar = elim (cases_Bool (is_hidden c)) [
  | inl hidden ↦
      subst IsAllVisible (sym (ap (λ (b : Bool). if b then ascii_escape c else encode_utf8 c) hidden)) (number_visible c (hidden_scalar c hidden).1)
  | inr visible ↦
      subst IsAllVisible (sym (ap (λ (b : Bool). if b then ascii_escape c else encode_utf8 c) visible)) (plain_visible c scalar visible)
]

escaped_visible : (c : ℕ) → (c == 34 || c == 92) ≡ true → IsAllVisible (92 ∷ c ∷ [])
escaped_visible c test = elim (or_cases (c == 34) (c == 92) test) [
  | inl quote ↦
      let is : c ≡ 34 = grind (arith, nat_tests) in
      visible_ascii (92 ∷ c ∷ []) ((omega arith, omega arith), ((omega arith, omega arith), tt))
  | inr backslash ↦
      let is : c ≡ 92 = grind (arith, nat_tests) in
      visible_ascii (92 ∷ c ∷ []) ((omega arith, omega arith), ((omega arith, omega arith), tt))
]

quoted_visible : (c : ℕ) → IsScalar c → IsAllVisible (quoted_character c)
quoted_visible c scalar = elim (cases_Bool (c == 34 || c == 92)) [
  | inl escaped ↦
      subst IsAllVisible (sym (ap (λ (b : Bool). if b then 92 ∷ c ∷ [] else shown_character c) escaped)) (escaped_visible c escaped)
  | inr plain ↦
      subst IsAllVisible (sym (ap (λ (b : Bool). if b then 92 ∷ c ∷ [] else shown_character c) plain)) (shown_visible c scalar)
]

each_scalar : (f : ℕ → List ℕ) (visible : (c : ℕ) → IsScalar c → IsAllVisible (f c)) (cs : List ℕ) → all_scalars cs ≡ true → AllByRecursion (λ c. IsAllVisible (f c)) cs
each_scalar f visible [] scalars = tt
each_scalar f visible (c ∷ cs) scalars =
    let parts = and_parts _ (all_scalars cs) scalars in
    (visible c parts.0, each_scalar f visible cs parts.1)

characters_visible : (f : ℕ → List ℕ) → ((c : ℕ) → IsScalar c → IsAllVisible (f c)) → (text : List ℕ) → IsUtf8 text → IsAllVisible (flat_map f (chars text))
characters_visible f visible text utf8 =
    visible_each f (chars text) (each_scalar f visible (chars text) (scalars-chars text utf8))

pub quoted_characters_visible : (text : List ℕ) → IsUtf8 text → IsAllVisible (flat_map quoted_character (chars text))
quoted_characters_visible text utf8 = characters_visible quoted_character quoted_visible text utf8

pub quoted_text_visible : (text : List ℕ) → IsUtf8 text → IsAllVisible (quoted text)
quoted_text_visible text utf8 =
    let mark : IsAllVisible (codes "\"") = visible_ascii (codes "\"") ((omega arith, omega arith), tt) in
    visible_append (codes "\"" ++ flat_map quoted_character (chars text)) (codes "\"")
    (visible_append (codes "\"") (flat_map quoted_character (chars text)) mark (quoted_characters_visible text utf8)) mark

-- ---- comments

character_by : (c : ℕ) (mark : Bool) → (mark ≡ true → c ≡ 92) → IsScalar c → IsAllVisible (if mark then 92 ∷ c ∷ [] else shown_character c)
character_by c true is scalar =
    let backslash = is refl in
    visible_ascii (92 ∷ c ∷ []) ((omega arith, omega arith), ((omega (arith, backslash), omega (arith, backslash)), tt))
character_by c false is scalar = shown_visible c scalar

comment_character_visible : (c : ℕ) → IsScalar c → IsAllVisible (comment_character c)
comment_character_visible c scalar = character_by c (c == 92) (eqb-true c 92) scalar

byte_shown : (b : ℕ) → b < 256 → IsAllVisible (if is_from 0x20 0x7e b then b ∷ [] else codes "\\x" ++ encode_lower (b ∷ []))
byte_shown b fits = elim (cases_Bool (is_from 0x20 0x7e b)) [
  | inl printable ↦
      subst IsAllVisible (sym (ap (λ (p : Bool). if p then b ∷ [] else codes "\\x" ++ encode_lower (b ∷ [])) printable)) (visible_ascii (b ∷ []) (from_test b printable, tt))
  | inr other ↦
      subst IsAllVisible (sym (ap (λ (p : Bool). if p then b ∷ [] else codes "\\x" ++ encode_lower (b ∷ [])) other))
      (visible_append (codes "\\x") (encode_lower (b ∷ [])) (visible_ascii (codes "\\x") ((omega arith, omega arith), ((omega arith, omega arith), tt))) (visible_ascii (encode_lower (b ∷ [])) (digits_printable (b ∷ []) (fits, tt))))
]

byte_by : (b : ℕ) (mark : Bool) → (mark ≡ true → b ≡ 92) → b < 256
    → IsAllVisible (if mark then 92 ∷ b ∷ [] else if is_from 0x20 0x7e b then b ∷ [] else codes "\\x" ++ encode_lower (b ∷ []))
byte_by b true is fits =
    let backslash = is refl in
    visible_ascii (92 ∷ b ∷ []) ((omega arith, omega arith), ((omega (arith, backslash), omega (arith, backslash)), tt))
byte_by b false is fits = byte_shown b fits

byte_visible : (b : ℕ) → b < 256 → IsAllVisible (comment_byte b)
byte_visible b fits = byte_by b (b == 92) (eqb-true b 92) fits

bytes_visible : (bytes : List ℕ) → IsBytes bytes → AllByRecursion (λ b. IsAllVisible (comment_byte b)) bytes
bytes_visible [] fits = tt
bytes_visible (b ∷ bytes) fits = (byte_visible b fits.0, bytes_visible bytes fits.1)

pub front_is_utf8 : (bytes : List ℕ) (n : ℕ) → IsUtf8 (take (valid_len_up_to bytes n) bytes)
front_is_utf8 bytes zero = IsUtf8-nil
front_is_utf8 bytes (suc n) = elim (cases_Bool (is_utf8 (take (suc n) bytes))) [
  | inl utf8 ↦ rw utf8 (IsUtf8-from_is_utf8 (take (suc n) bytes) utf8)
  | inr other ↦ rw other (front_is_utf8 bytes n)
]

pub utf8_if_all : (text : List ℕ) → (utf8_valid_len text == length text) ≡ true → IsUtf8 text
unfolding utf8_valid_len
utf8_if_all text test =
    let all : valid_len_up_to text (length text) ≡ length text = grind (arith, nat_tests) in
    subst IsUtf8 (ap (λ (n : ℕ). take n text) all ∙ take-length text) (front_is_utf8 text (length text))

pub readable_visible : (text : List ℕ) → IsUtf8 text → IsAllVisible (comment_text text)
readable_visible text utf8 =
    let whole : (utf8_valid_len text == length text) ≡ true = grind (arith, nat_tests, utf8_valid_len-IsUtf8 text utf8) in
    subst IsAllVisible (sym (ap (λ (b : Bool). if b then flat_map comment_character (chars text) else flat_map comment_byte text) whole))
    (characters_visible comment_character comment_character_visible text utf8)

pub comment_visible : (text : List ℕ) → IsBytes text → IsAllVisible (comment_text text)
comment_visible text fits = elim (cases_Bool (utf8_valid_len text == length text)) [
  | inl whole ↦
      subst IsAllVisible (sym (ap (λ (b : Bool). if b then flat_map comment_character (chars text) else flat_map comment_byte text) whole))
      (characters_visible comment_character comment_character_visible text (utf8_if_all text whole))
  | inr other ↦
      subst IsAllVisible (sym (ap (λ (b : Bool). if b then flat_map comment_character (chars text) else flat_map comment_byte text) other))
      (visible_each comment_byte text (bytes_visible text fits))
]
