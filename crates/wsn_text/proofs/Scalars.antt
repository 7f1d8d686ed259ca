-- The rows of the table are the encodings of the scalar values, so text by the table is std's.
use Rattle.std.proofs.Common.{◌≡◌, ℕ, ◌+◌, ◌-◌, ◌*◌, ◌/◌, ◌<◌, ◌≤◌, ◌⊎◌, ◌↔◌, true, List, [], ◌∷◌, ◌++◌, length, inl, inr, sym, ◌∙◌, subst, ap, arith, lt-ltb, le-ltb, le-leb}
use Rattle.std.proofs.lemmas.Bool.{cases_lt, and_parts}
use Rattle.std.proofs.lemmas.Str.{encode_ascii, IsUtf8-nil, length-encode, len_utf8_bounds}
use Rattle.std.specs.Char.{len_utf8}
use Rattle.std.specs.List.{AllByRecursion, concat}
use Rattle.std.specs.Str.{IsUtf8}
use lib.Utf8.{scalar, scalars, encode, encodes, next, low_scalar, scalar_cases}
use Rattle.wsn_text.specs.Utf8.{Range, ◌–◌, table, FitsRow, FitsSome, IsCharacter, IsText}
use Rattle.wsn_text.proofs.Rests.{text-nil, text_push}

-- The bytes of a scalar value, by its size.

encode_two : (c : ℕ) → 0x80 ≤ c → c < 0x800 → encode c ≡ (192 + c / 64) ∷ next c ∷ []
unfolding encode
encode_two c low high = rw (le-ltb c 0x80 low, lt-ltb c 0x800 high)

encode_three : (c : ℕ) → 0x800 ≤ c → c < 0x1_0000 → encode c ≡ (224 + c / 4096) ∷ next (c / 64) ∷ next c ∷ []
unfolding encode
encode_three c low high = rw (le-ltb c 0x80 (omega arith), le-ltb c 0x800 low, lt-ltb c 0x1_0000 high)

encode_four : (c : ℕ) → 0x1_0000 ≤ c → encode c ≡ (240 + c / 262144) ∷ next (c / 4096) ∷ next (c / 64) ∷ next c ∷ []
unfolding encode
encode_four c low = rw (le-ltb c 0x80 (omega arith), le-ltb c 0x800 (omega arith), le-ltb c 0x1_0000 low)

-- From a scalar value to its row.

three_in_table : (c : ℕ) → 0x800 ≤ c → c < 0x1_0000 → (c < 0xD800) ⊎ ((0xE000 ≤ c) × (c < 0x11_0000)) → IsCharacter ((224 + c / 4096) ∷ next (c / 64) ∷ next c ∷ [])
three_in_table c low high range =
    elim (cases_lt c 0x1000) [
      | inl a ↦ inr (inr (inl (omega arith, omega arith, (omega arith, omega arith, (omega arith, omega arith, tt)))))
      | inr a ↦ elim (cases_lt c 0xD000) [
        | inl b ↦ inr (inr (inr (inl (omega arith, omega arith, (omega arith, omega arith, (omega arith, omega arith, tt))))))
        | inr b ↦ elim range [
          | inl d ↦ inr (inr (inr (inr (inl (omega arith, omega arith, (omega arith, omega arith, (omega arith, omega arith, tt)))))))
          | inr d ↦ inr (inr (inr (inr (inr (inl (omega arith, omega arith, (omega arith, omega arith, (omega arith, omega arith, tt))))))))
        ]
      ]
    ]

four_in_table : (c : ℕ) → 0x1_0000 ≤ c → c < 0x11_0000 → IsCharacter ((240 + c / 262144) ∷ next (c / 4096) ∷ next (c / 64) ∷ next c ∷ [])
four_in_table c low high =
    elim (cases_lt c 0x4_0000) [
      | inl a ↦ inr (inr (inr (inr (inr (inr (inl (omega arith, omega arith, (omega arith, omega arith, (omega arith, omega arith, (omega arith, omega arith, tt))))))))))
      | inr a ↦ elim (cases_lt c 0x10_0000) [
        | inl b ↦ inr (inr (inr (inr (inr (inr (inr (inl (omega arith, omega arith, (omega arith, omega arith, (omega arith, omega arith, (omega arith, omega arith, tt)))))))))))
        | inr b ↦ inr (inr (inr (inr (inr (inr (inr (inr (inl (omega arith, omega arith, (omega arith, omega arith, (omega arith, omega arith, (omega arith, omega arith, tt))))))))))))
      ]
    ]

in_table : (c : ℕ) → scalar c ≡ true → IsCharacter (encode c)
in_table c ok =
    let range = scalar_cases c ok in
    elim (cases_lt c 0x80) [
      | inl a ↦ rw (encode_ascii c a) (inl (omega arith, omega arith, tt))
      | inr a ↦ elim (cases_lt c 0x800) [
        | inl b ↦ rw (encode_two c a b) (inr (inl (omega arith, omega arith, (omega arith, omega arith, tt))))
        | inr b ↦ elim (cases_lt c 0x1_0000) [
          | inl d ↦ rw (encode_three c b d) (three_in_table c b d range)
          | inr d ↦ rw (encode_four c d) (four_in_table c d (omega arith))
        ]
      ]
    ]

text_of_scalars : (cs : List ℕ) → scalars cs ≡ true → IsText (encodes cs)
text_of_scalars [] ok = text-nil
text_of_scalars (c ∷ cs) ok =
    let both = and_parts (scalar c) (scalars cs) ok in
    text_push (encode c) (encodes cs) (in_table c both.0) (text_of_scalars cs both.1)

-- From a row to its scalar value.

record IsEncoded (bytes : List ℕ) : Type 0 where
  value : ℕ
  ok : scalar value ≡ true
  encoded : encode value ≡ bytes

high_scalar : (c : ℕ) → 0xE000 ≤ c → c < 0x11_0000 → scalar c ≡ true
high_scalar c low high = rw (le-ltb c 0xD800 (omega arith), le-leb 0xE000 c low, lt-ltb c 0x11_0000 high)

abbrev IsLater : ℕ → Type 0
IsLater b = (0x80 ≤ b) × (b ≤ 0xBF)

two_encoded : (x y : ℕ) → (0xC2 ≤ x) × (x ≤ 0xDF) → IsLater y → IsEncoded (x ∷ y ∷ [])
two_encoded x y first second =
    let c = (x - 192) * 64 + (y - 128) in
    let lead : 192 + c / 64 ≡ x = omega arith in
    let later : next c ≡ y = omega arith in
    record { value = c; ok = low_scalar c (omega arith); encoded = encode_two c (omega arith) (omega arith) ∙ (λ i. lead i ∷ later i ∷ []) }

three_encoded : (x y z : ℕ) → (0xE0 ≤ x) × (x ≤ 0xEF) → IsLater y → IsLater z → (0xE1 ≤ x) ⊎ (0xA0 ≤ y) → (y ≤ 0x9F) ⊎ ((x ≤ 0xEC) ⊎ (0xEE ≤ x)) → IsEncoded (x ∷ y ∷ z ∷ [])
three_encoded x y z first second third long surrogate =
    let c = (x - 224) * 4096 + (y - 128) * 64 + (z - 128) in
    let lead : 224 + c / 4096 ≡ x = omega arith in
    let middle : next (c / 64) ≡ y = omega arith in
    let later : next c ≡ z = omega arith in
    let ok : scalar c ≡ true = elim (cases_lt c 0xD800) [ inl low ↦ low_scalar c low | inr high ↦ high_scalar c (omega arith) (omega arith) ] in
    record { value = c; ok = ok; encoded = encode_three c (omega arith) (omega arith) ∙ (λ i. lead i ∷ middle i ∷ later i ∷ []) }

four_encoded : (x y z w : ℕ) → (0xF0 ≤ x) × (x ≤ 0xF4) → IsLater y → IsLater z → IsLater w → (0xF1 ≤ x) ⊎ (0x90 ≤ y) → (x ≤ 0xF3) ⊎ (y ≤ 0x8F) → IsEncoded (x ∷ y ∷ z ∷ w ∷ [])
four_encoded x y z w first second third fourth long large =
    let c = (x - 240) * 262144 + (y - 128) * 4096 + (z - 128) * 64 + (w - 128) in
    let without_last : c / 64 ≡ (x - 240) * 4096 + (y - 128) * 64 + (z - 128) = omega arith in
    let lead : 240 + c / 262144 ≡ x = omega arith in
    let upper : next (c / 4096) ≡ y = omega arith in
    let middle : next (c / 64) ≡ z = rw without_last (omega arith) in
    let later : next c ≡ w = omega arith in
    record { value = c; ok = high_scalar c (omega arith) (omega arith); encoded = encode_four c (omega arith) ∙ (λ i. lead i ∷ upper i ∷ middle i ∷ later i ∷ []) }

row_of_one : (p : Range) (bytes : List ℕ) → FitsRow (p ∷ []) bytes → p.high < 0x80 → IsEncoded bytes
row_of_one p [] fits low = absurd fits
row_of_one p (x ∷ []) fits low = record { value = x; ok = low_scalar x (omega arith); encoded = encode_ascii x (omega arith) }
row_of_one p (x ∷ y ∷ bytes) fits low = absurd fits.2

-- The ranges of a row of two, three or four bytes.
abbrev AllOfTwo : Range → Range → Type 0
AllOfTwo p q = (x y : ℕ) → (p.low ≤ x) × (x ≤ p.high) → (q.low ≤ y) × (y ≤ q.high) → IsEncoded (x ∷ y ∷ [])

row_of_two : (p q : Range) → AllOfTwo p q → (bytes : List ℕ) → FitsRow (p ∷ q ∷ []) bytes → IsEncoded bytes
row_of_two p q all [] fits = absurd fits
row_of_two p q all (x ∷ []) fits = absurd fits.2
row_of_two p q all (x ∷ y ∷ []) fits = all x y (fits.0, fits.1) (fits.2.0, fits.2.1)
row_of_two p q all (x ∷ y ∷ z ∷ bytes) fits = absurd fits.2.2

abbrev any : Range
any = 0x80 – 0xBF

abbrev AllOfThree : Range → Range → Type 0
AllOfThree p q = (x y z : ℕ) → (p.low ≤ x) × (x ≤ p.high) → (q.low ≤ y) × (y ≤ q.high) → IsLater z → IsEncoded (x ∷ y ∷ z ∷ [])

row_of_three : (p q : Range) → AllOfThree p q → (bytes : List ℕ) → FitsRow (p ∷ q ∷ any ∷ []) bytes → IsEncoded bytes
row_of_three p q all [] fits = absurd fits
row_of_three p q all (x ∷ []) fits = absurd fits.2
row_of_three p q all (x ∷ y ∷ []) fits = absurd fits.2.2
row_of_three p q all (x ∷ y ∷ z ∷ []) fits = all x y z (fits.0, fits.1) (fits.2.0, fits.2.1) (fits.2.2.0, fits.2.2.1)
row_of_three p q all (x ∷ y ∷ z ∷ w ∷ bytes) fits = absurd fits.2.2.2

abbrev AllOfFour : Range → Range → Type 0
AllOfFour p q = (x y z w : ℕ) → (p.low ≤ x) × (x ≤ p.high) → (q.low ≤ y) × (y ≤ q.high) → IsLater z → IsLater w → IsEncoded (x ∷ y ∷ z ∷ w ∷ [])

row_of_four : (p q : Range) → AllOfFour p q → (bytes : List ℕ) → FitsRow (p ∷ q ∷ any ∷ any ∷ []) bytes → IsEncoded bytes
row_of_four p q all [] fits = absurd fits
row_of_four p q all (x ∷ []) fits = absurd fits.2
row_of_four p q all (x ∷ y ∷ []) fits = absurd fits.2.2
row_of_four p q all (x ∷ y ∷ z ∷ []) fits = absurd fits.2.2.2
row_of_four p q all (x ∷ y ∷ z ∷ w ∷ []) fits = all x y z w (fits.0, fits.1) (fits.2.0, fits.2.1) (fits.2.2.0, fits.2.2.1) (fits.2.2.2.0, fits.2.2.2.1)
row_of_four p q all (x ∷ y ∷ z ∷ w ∷ v ∷ bytes) fits = absurd fits.2.2.2.2

abbrev IsEncodedRow : List Range → Type 0
IsEncodedRow row = (bytes : List ℕ) → FitsRow row bytes → IsEncoded bytes

some_encoded : (rows : List (List Range)) → AllByRecursion IsEncodedRow rows → (bytes : List ℕ) → FitsSome rows bytes → IsEncoded bytes
some_encoded [] each bytes fits = absurd fits
some_encoded (row ∷ rows) each bytes fits = elim fits [ inl here ↦ each.0 bytes here | inr later ↦ some_encoded rows each.1 bytes later ]

-- No row of three bytes encodes a character that fits in two bytes, or a surrogate.
three_row : (p q : Range) → (0xE0 ≤ p.low) × (p.high ≤ 0xEF) × (0x80 ≤ q.low) × (q.high ≤ 0xBF) → (0xE1 ≤ p.low) ⊎ (0xA0 ≤ q.low) → (q.high ≤ 0x9F) ⊎ ((p.high ≤ 0xEC) ⊎ (0xEE ≤ p.low)) → IsEncodedRow (p ∷ q ∷ any ∷ [])
three_row p q ranges long surrogate = row_of_three p q (λ x y z first second third. three_encoded x y z (omega arith) (omega arith) third (grind arith) (grind arith))

-- No row of four bytes encodes a character that fits in three bytes, or one above 0x10FFFF.
four_row : (p q : Range) → (0xF0 ≤ p.low) × (p.high ≤ 0xF4) × (0x80 ≤ q.low) × (q.high ≤ 0xBF) → (0xF1 ≤ p.low) ⊎ (0x90 ≤ q.low) → (p.high ≤ 0xF3) ⊎ (q.high ≤ 0x8F) → IsEncodedRow (p ∷ q ∷ any ∷ any ∷ [])
four_row p q ranges long large = row_of_four p q (λ x y z w first second third fourth. four_encoded x y z w (omega arith) (omega arith) third fourth (grind arith) (grind arith))

encoded : (bytes : List ℕ) → IsCharacter bytes → IsEncoded bytes
encoded =
    some_encoded table (
      λ bytes fits. row_of_one (0x00 – 0x7F) bytes fits (omega arith),
      (
        row_of_two (0xC2 – 0xDF) any two_encoded,
        (
          three_row (0xE0 – 0xE0) (0xA0 – 0xBF) (omega arith) (inr (omega arith)) (inr (inl (omega arith))),
          (
            three_row (0xE1 – 0xEC) any (omega arith) (inl (omega arith)) (inr (inl (omega arith))),
            (
              three_row (0xED – 0xED) (0x80 – 0x9F) (omega arith) (inl (omega arith)) (inl (omega arith)),
              (
                three_row (0xEE – 0xEF) any (omega arith) (inl (omega arith)) (inr (inr (omega arith))),
                (
                  four_row (0xF0 – 0xF0) (0x90 – 0xBF) (omega arith) (inr (omega arith)) (inl (omega arith)),
                  (four_row (0xF1 – 0xF3) any (omega arith) (inl (omega arith)) (inl (omega arith)), (four_row (0xF4 – 0xF4) (0x80 – 0x8F) (omega arith) (inl (omega arith)) (inr (omega arith)), tt)),
                ),
              ),
            ),
          ),
        ),
      ),
    )

pub character_length : (bytes : List ℕ) → IsCharacter bytes → (0 < length bytes) × (length bytes ≤ 4)
character_length bytes fits =
    let e : IsEncoded bytes = encoded bytes fits in
    let len : length bytes ≡ len_utf8 e.value = ap length (sym e.encoded) ∙ length-encode e.value in
    let bounds = len_utf8_bounds e.value in
    (omega arith, omega arith)

utf8_push : (c : ℕ) (bytes : List ℕ) → scalar c ≡ true → IsUtf8 bytes → IsUtf8 (encode c ++ bytes)
utf8_push c bytes ok utf8 = (c ∷ utf8.0, (rw ok utf8.1.0, λ i. encode c ++ utf8.1.1 i))

utf8_of_characters : (characters : List (List ℕ)) → AllByRecursion IsCharacter characters → IsUtf8 (concat characters)
utf8_of_characters [] each = IsUtf8-nil
utf8_of_characters (character ∷ characters) each =
    let e : IsEncoded character = encoded character each.0 in
    subst (λ (front : List ℕ). IsUtf8 (front ++ concat characters)) e.encoded (utf8_push e.value (concat characters) e.ok (utf8_of_characters characters each.1))

pub text_is_utf8 : (bytes : List ℕ) → IsText bytes ↔ IsUtf8 bytes
text_is_utf8 bytes = (
  λ text. subst IsUtf8 (sym text.whole) (utf8_of_characters text.characters text.each),
  λ utf8. subst IsText utf8.1.1 (text_of_scalars utf8.0 utf8.1.0),
)
