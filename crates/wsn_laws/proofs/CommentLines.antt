-- Two comments that have the same line are the same.
use Rattle.std.proofs.Common.{◌≡◌, ◌≢◌, ℕ, zero, suc, ◌+◌, ◌-◌, ◌*◌, ◌/◌, ◌%◌, ◌<◌, ◌≤◌, Bool, true, false, ◌==◌, if◌then◌else◌, Ok, List, [], ◌∷◌, ◌++◌, length, codes, refl, sym, ap, ap₂, ◌∙◌, arith, append_assoc, length-append, eqb-true}
use Rattle.std.specs.Prelude.{⊤, nat_lt, flat_map}
use Rattle.std.specs.Char.{encode_utf8}
use Rattle.std.specs.Str.{chars, IsAscii, IsUtf8, encode_utf8_all}
use Rattle.std.specs.Str.Lossy.{utf8_valid_len}
use Rattle.std.proofs.lemmas.Bool.{eqb-false}
use Rattle.std.proofs.lemmas.Bool.Decides.{nat_tests}
use Rattle.std.proofs.lemmas.List.{append_cancel_right}
use Rattle.std.proofs.lemmas.Str.{encode_same, encode_ascii, char_from_byte, length-encode, len_utf8_bounds, encodes-chars, IsUtf8-from_ascii, utf8_valid_len-IsUtf8}
use Rattle.std.proofs.lemmas.Str.Ascii.{IsAscii-nil, IsAscii-cons}
use Rattle.hex.specs.Hex as hex
use Rattle.hex.specs.Hex.{decode_of, encode_lower}
use Rattle.hex.proofs.HexLemmas.{decode_of-encode_lower, decode_of-ok}
use Rattle.wsn_wire.specs.Frame.{IsBytes}
use Rattle.wsn_print.specs.EscapedText.{is_from, is_hidden, unicode_escape, ascii_escape, comment_character, comment_byte, comment_text, comment_line}
use Rattle.wsn_print.proofs.HiddenRanges.{below, hidden_scalar}
use Rattle.wsn_laws.proofs.JsonTexts.{split, at_least}
use Rattle.wsn_shown_text.proofs.VisibleTexts.{utf8_if_all}

-- ---- the parts of a line

-- A character as it is, a backslash that is doubled, a character by its number, one by its two surrogates, or a byte.
data Part : Type 0 where
  Character : ℕ → Part
  Backslash : Part
  Escape : ℕ → Part
  Pair : ℕ → Part
  Byte : ℕ → Part

abbrev high_of : ℕ → ℕ
high_of c = 0xd800 + (c - 0x10000) / 0x400

abbrev low_of : ℕ → ℕ
low_of c = 0xdc00 + (c - 0x10000) % 0x400

abbrev text_of : Part → List ℕ
text_of (Character c) = encode_utf8 c
text_of Backslash = 92 ∷ 92 ∷ []
text_of (Escape c) = unicode_escape c
text_of (Pair c) = unicode_escape (high_of c) ++ unicode_escape (low_of c)
text_of (Byte b) = 92 ∷ 120 ∷ encode_lower (b ∷ [])

abbrev number_of : Part → ℕ
number_of (Character c) = c
number_of Backslash = 92
number_of (Escape c) = c
number_of (Pair c) = c
number_of (Byte b) = b

abbrev IsFit : Part → Type 0
IsFit (Character c) = c ≢ 92
IsFit Backslash = ⊤
IsFit (Escape c) = (c < 0x10000) × (0xd800 ≤ c → 0xe000 ≤ c)
IsFit (Pair c) = (0x10000 ≤ c) × (c < 0x110000)
IsFit (Byte b) = IsBytes (b ∷ [])

-- ---- a part at the front of a line is the only one

by_place : (bytes : List ℕ) → IsBytes bytes → hex.IsBytes bytes
by_place [] all i = omega arith
by_place (byte ∷ bytes) all zero = all.0
by_place (byte ∷ bytes) all (suc i) = by_place bytes all.1 i

same_digits : (xs ys r t : List ℕ) → IsBytes xs → IsBytes ys → length xs ≡ length ys → encode_lower xs ++ r ≡ encode_lower ys ++ t → (xs ≡ ys) × (r ≡ t)
same_digits xs ys r t fits also long same =
    let read_xs : decode_of (encode_lower xs) ≡ Ok xs = decode_of-encode_lower xs (by_place xs fits) in
    let read_ys : decode_of (encode_lower ys) ≡ Ok ys = decode_of-encode_lower ys (by_place ys also) in
    let size_xs : length (encode_lower xs) ≡ 2 * length xs = (decode_of-ok (encode_lower xs) xs read_xs).2 in
    let size_ys : length (encode_lower ys) ≡ 2 * length ys = (decode_of-ok (encode_lower ys) ys read_ys).2 in
    let parts = split (encode_lower xs) (encode_lower ys) r t (omega (arith, size_xs, size_ys, long)) same in
    let bytes : Ok xs ≡ Ok ys = sym read_xs ∙ ap decode_of parts.0 ∙ read_ys in
    (cc, parts.1)

no_backslash : (c : ℕ) (rest more : List ℕ) → c ≢ 92 → encode_utf8 c ++ rest ≡ 92 ∷ more → ⊥
no_backslash c rest more isnt same = isnt (char_from_byte (92 ∷ more) rest c (sym same) (omega arith) (omega arith))

one_number : (c d : ℕ) (r t : List ℕ) → c < 0x10000 → d < 0x10000 → unicode_escape c ++ r ≡ unicode_escape d ++ t → (c ≡ d) × (r ≡ t)
one_number c d r t fits also same =
    let following : encode_lower (c / 256 ∷ c % 256 ∷ []) ++ r ≡ encode_lower (d / 256 ∷ d % 256 ∷ []) ++ t = cc in
    let parts = same_digits (c / 256 ∷ c % 256 ∷ []) (d / 256 ∷ d % 256 ∷ []) r t (omega arith, (omega arith, tt)) (omega arith, (omega arith, tt)) refl following in
    let bytes : c / 256 ∷ c % 256 ∷ [] ≡ d / 256 ∷ d % 256 ∷ [] = parts.0 in
    let high : c / 256 ≡ d / 256 = cc in
    let low : c % 256 ≡ d % 256 = cc in
    (omega (arith, high, low), parts.1)

one_escape : (c d : ℕ) (r t : List ℕ) → IsFit (Escape c) → IsFit (Escape d) → unicode_escape c ++ r ≡ unicode_escape d ++ t → (Escape c ≡ Escape d) × (r ≡ t)
one_escape c d r t fits also same =
    let parts = one_number c d r t fits.0 also.0 same in
    (ap Escape parts.0, parts.1)

pair_text : (c : ℕ) (r : List ℕ) → text_of (Pair c) ++ r ≡ unicode_escape (high_of c) ++ (unicode_escape (low_of c) ++ r)
pair_text c r = append_assoc (unicode_escape (high_of c)) (unicode_escape (low_of c)) r

one_pair : (c d : ℕ) (r t : List ℕ) → IsFit (Pair c) → IsFit (Pair d) → text_of (Pair c) ++ r ≡ text_of (Pair d) ++ t → (Pair c ≡ Pair d) × (r ≡ t)
one_pair c d r t fits also same =
    let highs = one_number (high_of c) (high_of d) (unicode_escape (low_of c) ++ r) (unicode_escape (low_of d) ++ t) (omega (arith, fits.0, fits.1)) (omega (arith, also.0, also.1)) (sym (pair_text c r) ∙ same ∙ pair_text d t) in
    let lows = one_number (low_of c) (low_of d) r t (omega arith) (omega arith) highs.1 in
    let is : c ≡ d = omega (arith, fits.0, also.0, highs.0, lows.0) in
    (ap Pair is, lows.1)

no_pair : (c d : ℕ) (r t : List ℕ) → IsFit (Escape c) → IsFit (Pair d) → unicode_escape c ++ r ≡ text_of (Pair d) ++ t → ⊥
no_pair c d r t fits also same =
    let first = one_number c (high_of d) r (unicode_escape (low_of d) ++ t) fits.0 (omega (arith, also.0, also.1)) (same ∙ pair_text d t) in
    let least : 0xd800 ≤ c = omega (arith, first.0) in
    omega (arith, first.0, also.0, also.1, fits.1 least)

one_byte : (b d : ℕ) (r t : List ℕ) → IsBytes (b ∷ []) → IsBytes (d ∷ [])
    → 92 ∷ 120 ∷ (encode_lower (b ∷ []) ++ r) ≡ 92 ∷ 120 ∷ (encode_lower (d ∷ []) ++ t) → (Byte b ≡ Byte d) × (r ≡ t)
one_byte b d r t fits also same =
    let following : encode_lower (b ∷ []) ++ r ≡ encode_lower (d ∷ []) ++ t = cc in
    let parts = same_digits (b ∷ []) (d ∷ []) r t fits also refl following in
    let bytes : b ∷ [] ≡ d ∷ [] = parts.0 in
    (cc, parts.1)

other_letter : (n m : ℕ) (r t : List ℕ) → n ≢ m → 92 ∷ n ∷ r ≡ 92 ∷ m ∷ t → ⊥
other_letter n m r t differ same =
    let letters : n ≡ m = cc in
    differ letters

one_part : (p q : Part) (r t : List ℕ) → IsFit p → IsFit q → text_of p ++ r ≡ text_of q ++ t → (p ≡ q) × (r ≡ t)
one_part (Character c) (Character d) r t fits also same =
    let parts = encode_same c d r t same in
    (ap Character parts.0, parts.1)
one_part (Character c) Backslash r t fits also same = absurd (no_backslash c r (92 ∷ t) fits same)
one_part (Character c) (Escape d) r t fits also same = absurd (no_backslash c r (117 ∷ (encode_lower (d / 256 ∷ d % 256 ∷ []) ++ t)) fits same)
one_part (Character c) (Pair d) r t fits also same =
    absurd (no_backslash c r (117 ∷ (encode_lower (high_of d / 256 ∷ high_of d % 256 ∷ []) ++ (unicode_escape (low_of d) ++ t))) fits (same ∙ pair_text d t))
one_part (Character c) (Byte d) r t fits also same = absurd (no_backslash c r (120 ∷ (encode_lower (d ∷ []) ++ t)) fits same)
one_part Backslash (Character d) r t fits also same = absurd (no_backslash d t (92 ∷ r) also (sym same))
one_part Backslash Backslash r t fits also same = (refl, cc)
one_part Backslash (Escape d) r t fits also same = absurd (other_letter 92 117 r (encode_lower (d / 256 ∷ d % 256 ∷ []) ++ t) (λ e. omega (arith, e)) same)
one_part Backslash (Pair d) r t fits also same =
    absurd (other_letter 92 117 r (encode_lower (high_of d / 256 ∷ high_of d % 256 ∷ []) ++ (unicode_escape (low_of d) ++ t)) (λ e. omega (arith, e)) (same ∙ pair_text d t))
one_part Backslash (Byte d) r t fits also same = absurd (other_letter 92 120 r (encode_lower (d ∷ []) ++ t) (λ e. omega (arith, e)) same)
one_part (Escape c) (Character d) r t fits also same = absurd (no_backslash d t (117 ∷ (encode_lower (c / 256 ∷ c % 256 ∷ []) ++ r)) also (sym same))
one_part (Escape c) Backslash r t fits also same = absurd (other_letter 117 92 (encode_lower (c / 256 ∷ c % 256 ∷ []) ++ r) t (λ e. omega (arith, e)) same)
one_part (Escape c) (Escape d) r t fits also same = one_escape c d r t fits also same
one_part (Escape c) (Pair d) r t fits also same = absurd (no_pair c d r t fits also same)
one_part (Escape c) (Byte d) r t fits also same =
    absurd (other_letter 117 120 (encode_lower (c / 256 ∷ c % 256 ∷ []) ++ r) (encode_lower (d ∷ []) ++ t) (λ e. omega (arith, e)) same)
one_part (Pair c) (Character d) r t fits also same =
    absurd (no_backslash d t (117 ∷ (encode_lower (high_of c / 256 ∷ high_of c % 256 ∷ []) ++ (unicode_escape (low_of c) ++ r))) also (sym same ∙ pair_text c r))
one_part (Pair c) Backslash r t fits also same =
    absurd (other_letter 117 92 (encode_lower (high_of c / 256 ∷ high_of c % 256 ∷ []) ++ (unicode_escape (low_of c) ++ r)) t (λ e. omega (arith, e)) (sym (pair_text c r) ∙ same))
one_part (Pair c) (Escape d) r t fits also same = absurd (no_pair d c t r also fits (sym same))
one_part (Pair c) (Pair d) r t fits also same = one_pair c d r t fits also same
one_part (Pair c) (Byte d) r t fits also same =
    absurd (other_letter 117 120 (encode_lower (high_of c / 256 ∷ high_of c % 256 ∷ []) ++ (unicode_escape (low_of c) ++ r)) (encode_lower (d ∷ []) ++ t) (λ e. omega (arith, e)) (sym (pair_text c r) ∙ same))
one_part (Byte b) (Character d) r t fits also same = absurd (no_backslash d t (120 ∷ (encode_lower (b ∷ []) ++ r)) also (sym same))
one_part (Byte b) Backslash r t fits also same = absurd (other_letter 120 92 (encode_lower (b ∷ []) ++ r) t (λ e. omega (arith, e)) same)
one_part (Byte b) (Escape d) r t fits also same =
    absurd (other_letter 120 117 (encode_lower (b ∷ []) ++ r) (encode_lower (d / 256 ∷ d % 256 ∷ []) ++ t) (λ e. omega (arith, e)) same)
one_part (Byte b) (Pair d) r t fits also same =
    absurd (other_letter 120 117 (encode_lower (b ∷ []) ++ r) (encode_lower (high_of d / 256 ∷ high_of d % 256 ∷ []) ++ (unicode_escape (low_of d) ++ t)) (λ e. omega (arith, e)) (same ∙ pair_text d t))
one_part (Byte b) (Byte d) r t fits also same = one_byte b d r t fits also same

some_text : (p : Part) (rest : List ℕ) → text_of p ++ rest ≡ [] → ⊥
some_text (Character c) rest none =
    let size : length (encode_utf8 c ++ rest) ≡ 0 = ap length none in
    absurd (omega (arith, size, length-append (encode_utf8 c) rest, length-encode c, (len_utf8_bounds c).0))
some_text Backslash rest none = absurd cc
some_text (Escape c) rest none = absurd cc
some_text (Pair c) rest none = absurd cc
some_text (Byte b) rest none = absurd cc

-- ---- parts one after another

abbrev texts_of : List Part → List ℕ
texts_of [] = []
texts_of (p ∷ ps) = text_of p ++ texts_of ps

abbrev numbers_of : List Part → List ℕ
numbers_of [] = []
numbers_of (p ∷ ps) = number_of p ∷ numbers_of ps

abbrev AreFit : List Part → Type 0
AreFit [] = ⊤
AreFit (p ∷ ps) = IsFit p × AreFit ps

same_parts : (ps qs : List Part) → AreFit ps → AreFit qs → texts_of ps ≡ texts_of qs → ps ≡ qs
same_parts [] [] fit also same = refl
same_parts [] (q ∷ qs) fit also same = absurd (some_text q (texts_of qs) (sym same))
same_parts (p ∷ ps) [] fit also same = absurd (some_text p (texts_of ps) same)
same_parts (p ∷ ps) (q ∷ qs) fit also same =
    let first = one_part p q (texts_of ps) (texts_of qs) fit.0 also.0 same in
    ap₂ (λ (x : Part) (xs : List Part). x ∷ xs) first.0 (same_parts ps qs fit.1 also.1 first.1)

-- ---- a comment in UTF-8

abbrev character_part : ℕ → Part
character_part c = if c == 92 then Backslash else if is_hidden c then (if nat_lt c 0x10000 then Escape c else Pair c) else Character c

record IsPartOf (p : Part) (n : ℕ) (bytes : List ℕ) : Type 0 where
  text : text_of p ≡ bytes
  fit : IsFit p
  number : number_of p ≡ n

escape_by : (c : ℕ) (few : Bool) → nat_lt c 0x10000 ≡ few → (0xd800 ≤ c → 0xe000 ≤ c) → c < 0x110000
    → IsPartOf (if few then Escape c else Pair c) c (if few then unicode_escape c else unicode_escape (high_of c) ++ unicode_escape (low_of c))
escape_by c true test none most = record { text = refl; fit = (below c 0x10000 test, none); number = refl }
escape_by c false test none most = record { text = refl; fit = (at_least c test, most); number = refl }

character_by : (c : ℕ) (mark hidden : Bool) → (c == 92) ≡ mark → is_hidden c ≡ hidden
    → IsPartOf (if mark then Backslash else if hidden then (if nat_lt c 0x10000 then Escape c else Pair c) else Character c) c
    (if mark then 92 ∷ c ∷ [] else if hidden then ascii_escape c else encode_utf8 c)
character_by c true hidden mark is =
    let e : c ≡ 92 = eqb-true c 92 mark in
    record { text = ap (λ (n : ℕ). 92 ∷ n ∷ []) (sym e); fit = tt; number = sym e }
character_by c false true mark is =
    let scalar = hidden_scalar c is in
    escape_by c (nat_lt c 0x10000) refl scalar.0 scalar.1
character_by c false false mark is = record { text = refl; fit = eqb-false c 92 mark; number = refl }

character_is : (c : ℕ) → IsPartOf (character_part c) c (comment_character c)
character_is c = character_by c (c == 92) (is_hidden c) refl refl

abbrev character_parts : List ℕ → List Part
character_parts [] = []
character_parts (c ∷ cs) = character_part c ∷ character_parts cs

character_texts : (cs : List ℕ) → texts_of (character_parts cs) ≡ flat_map comment_character cs
character_texts [] = refl
character_texts (c ∷ cs) = ap₂ (λ (xs ys : List ℕ). xs ++ ys) (character_is c).text (character_texts cs)

characters_fit : (cs : List ℕ) → AreFit (character_parts cs)
characters_fit [] = tt
characters_fit (c ∷ cs) = ((character_is c).fit, characters_fit cs)

character_numbers : (cs : List ℕ) → numbers_of (character_parts cs) ≡ cs
character_numbers [] = refl
character_numbers (c ∷ cs) = ap₂ (λ (x : ℕ) (xs : List ℕ). x ∷ xs) (character_is c).number (character_numbers cs)

-- ---- a comment that isn't UTF-8

abbrev byte_part : ℕ → Part
byte_part b = if b == 92 then Backslash else if is_from 0x20 0x7e b then Character b else Byte b

printable_small : (b : ℕ) → is_from 0x20 0x7e b ≡ true → b < 128
printable_small b is = grind (arith, nat_tests, is)

byte_by : (b : ℕ) (mark printable : Bool) → (b == 92) ≡ mark → is_from 0x20 0x7e b ≡ printable → b < 256
    → IsPartOf (if mark then Backslash else if printable then Character b else Byte b) b
    (if mark then 92 ∷ b ∷ [] else if printable then b ∷ [] else codes "\\x" ++ encode_lower (b ∷ []))
byte_by b true printable mark is fits =
    let e : b ≡ 92 = eqb-true b 92 mark in
    record { text = ap (λ (n : ℕ). 92 ∷ n ∷ []) (sym e); fit = tt; number = sym e }
byte_by b false true mark is fits = record { text = encode_ascii b (printable_small b is); fit = eqb-false b 92 mark; number = refl }
byte_by b false false mark is fits = record { text = refl; fit = (fits, tt); number = refl }

byte_is : (b : ℕ) → b < 256 → IsPartOf (byte_part b) b (comment_byte b)
byte_is b fits = byte_by b (b == 92) (is_from 0x20 0x7e b) refl refl fits

abbrev byte_parts : List ℕ → List Part
byte_parts [] = []
byte_parts (b ∷ bytes) = byte_part b ∷ byte_parts bytes

byte_texts : (bytes : List ℕ) → IsBytes bytes → texts_of (byte_parts bytes) ≡ flat_map comment_byte bytes
byte_texts [] fits = refl
byte_texts (b ∷ bytes) fits = ap₂ (λ (xs ys : List ℕ). xs ++ ys) (byte_is b fits.0).text (byte_texts bytes fits.1)

bytes_fit : (bytes : List ℕ) → IsBytes bytes → AreFit (byte_parts bytes)
bytes_fit [] fits = tt
bytes_fit (b ∷ bytes) fits = ((byte_is b fits.0).fit, bytes_fit bytes fits.1)

byte_numbers : (bytes : List ℕ) → IsBytes bytes → numbers_of (byte_parts bytes) ≡ bytes
byte_numbers [] fits = refl
byte_numbers (b ∷ bytes) fits = ap₂ (λ (x : ℕ) (xs : List ℕ). x ∷ xs) (byte_is b fits.0).number (byte_numbers bytes fits.1)

-- ---- a line is of one of both

never_a_byte : (c b : ℕ) (mark hidden few : Bool) → (if mark then Backslash else if hidden then (if few then Escape c else Pair c) else Character c) ≡ Byte b → ⊥
never_a_byte c b true hidden few same = absurd cc
never_a_byte c b false true true same = absurd cc
never_a_byte c b false true false same = absurd cc
never_a_byte c b false false few same = absurd cc

small_by : (c b : ℕ) (mark printable : Bool) → (b == 92) ≡ mark → is_from 0x20 0x7e b ≡ printable
    → character_part c ≡ (if mark then Backslash else if printable then Character b else Byte b) → b < 128
small_by c b true printable mark is same = omega (arith, eqb-true b 92 mark)
small_by c b false true mark is same = printable_small b is
small_by c b false false mark is same = absurd (never_a_byte c b (c == 92) (is_hidden c) (nat_lt c 0x10000) same)

all_ascii : (cs bytes : List ℕ) → character_parts cs ≡ byte_parts bytes → IsAscii bytes
all_ascii cs [] same = IsAscii-nil
all_ascii [] (b ∷ bytes) same = absurd cc
all_ascii (c ∷ cs) (b ∷ bytes) same =
    let first : character_part c ≡ byte_part b = cc in
    let following : character_parts cs ≡ byte_parts bytes = cc in
    IsAscii-cons b bytes (small_by c b (b == 92) (is_from 0x20 0x7e b) refl refl first) (all_ascii cs bytes following)

-- ---- comments

abbrev text_by : Bool → List ℕ → List ℕ
text_by whole text = if whole then flat_map comment_character (chars text) else flat_map comment_byte text

abbrev is_text : List ℕ → Bool
is_text text = utf8_valid_len text == length text

mixed : (text other : List ℕ) → is_text other ≡ false → IsBytes other → flat_map comment_character (chars text) ≡ flat_map comment_byte other → ⊥
mixed text other isnt also same =
    let parts : character_parts (chars text) ≡ byte_parts other =
    same_parts (character_parts (chars text)) (byte_parts other) (characters_fit (chars text)) (bytes_fit other also)
    (character_texts (chars text) ∙ same ∙ sym (byte_texts other also)) in
    let utf8 : IsUtf8 other = IsUtf8-from_ascii other (all_ascii (chars text) other parts) in
    eqb-false (utf8_valid_len other) (length other) isnt (utf8_valid_len-IsUtf8 other utf8)

one_by : (text other : List ℕ) (whole another : Bool) → is_text text ≡ whole → is_text other ≡ another → IsBytes text → IsBytes other
    → text_by whole text ≡ text_by another other → text ≡ other
one_by text other true true is too fits also same =
    let parts = same_parts (character_parts (chars text)) (character_parts (chars other)) (characters_fit (chars text)) (characters_fit (chars other))
    (character_texts (chars text) ∙ same ∙ sym (character_texts (chars other))) in
    let characters : chars text ≡ chars other = sym (character_numbers (chars text)) ∙ ap numbers_of parts ∙ character_numbers (chars other) in
    sym (encodes-chars text (utf8_if_all text is)) ∙ ap encode_utf8_all characters ∙ encodes-chars other (utf8_if_all other too)
one_by text other true false is too fits also same = absurd (mixed text other too also same)
one_by text other false true is too fits also same = absurd (mixed other text is fits (sym same))
one_by text other false false is too fits also same =
    let parts = same_parts (byte_parts text) (byte_parts other) (bytes_fit text fits) (bytes_fit other also)
    (byte_texts text fits ∙ same ∙ sym (byte_texts other also)) in
    sym (byte_numbers text fits) ∙ ap numbers_of parts ∙ byte_numbers other also

pub one_comment : (text other : List ℕ) → IsBytes text → IsBytes other → comment_line text ≡ comment_line other → text ≡ other
one_comment text other fits also same =
    one_by text other (is_text text) (is_text other) refl refl fits also (append_cancel_right (comment_text text) (comment_text other) (codes "\n") same)
