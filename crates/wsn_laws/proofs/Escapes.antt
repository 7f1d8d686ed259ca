-- A text in printable ASCII characters is a string: its other characters are escaped, those beyond U+FFFF as two
-- surrogates.
use Rattle.std.proofs.Common.{◌≡◌, ℕ, ◌+◌, ◌-◌, ◌/◌, ◌%◌, ◌<◌, ◌≤◌, ◌==◌, ◌||◌, inl, inr, Bool, true, false, if◌then◌else◌, Some, List, [], ◌∷◌, ◌++◌, refl, sym, arith, codes}
use Rattle.std.specs.Prelude.{flat_map}
use Rattle.std.specs.Char.{IsScalar}
use Rattle.std.specs.List.{AllByRecursion}
use Rattle.std.proofs.lemmas.Bool.{or_parts}
use Rattle.std.proofs.lemmas.Bool.Decides.{nat_tests}
use Rattle.std.proofs.lemmas.Str.{encode_ascii}
use Rattle.hex.specs.Hex.{encode_with, encode_upper}
use Rattle.hex.proofs.HexLemmas.{decode_of-encode_upper}
use Rattle.wsn_print.specs.EscapedText.{is_from, ascii_escape}
use Rattle.wsn_shown_text.specs.QuotedTexts.{unescaped, IsUnitEscape, IsOfSurrogates, IsJsonCharacter}
use Rattle.wsn_shown_text.specs.AsciiText.{ascii_character}
use Rattle.wsn_laws.proofs.JsonTexts.{two_bytes, surrogates_of, number_is}
use Rattle.wsn_laws.specs.JsonText.{AreCharacters, String, IsValue}

scalar_most : (c : ℕ) → IsScalar c → c < 0x110000
scalar_most c is = grind (arith, nat_tests)

no_surrogate : (c : ℕ) → IsScalar c → 0xd800 ≤ c → 0xe000 ≤ c
no_surrogate c is least = grind (arith, nat_tests)

-- ---- the two surrogates of a character

pub some_surrogates : (c : ℕ) → IsScalar c → 0x10000 ≤ c → (high : ℕ) × (low : ℕ) × IsOfSurrogates high low c
some_surrogates c is high = (0xd800 + (c - 0x10000) / 0x400, 0xdc00 + (c - 0x10000) % 0x400, surrogates_of c high (scalar_most c is))

pub one_pair : (high low other_high other_low c : ℕ) → IsOfSurrogates high low c → IsOfSurrogates other_high other_low c → (high ≡ other_high) × (low ≡ other_low)
one_pair high low other_high other_low c is also =
    (omega (arith, is.0, is.1, is.2, is.3, is.4, also.0, also.1, also.2, also.3, also.4), omega (arith, is.0, is.1, is.2, is.3, is.4, also.0, also.1, also.2, also.3, also.4))

scalar_from : (c : ℕ) → 0x10000 ≤ c → c < 0x110000 → IsScalar c
scalar_from c least most = grind (arith, nat_tests)

pub one_scalar : (high low c : ℕ) → IsOfSurrogates high low c → IsScalar c × (0x10000 ≤ c)
one_scalar high low c is =
    let least : 0x10000 ≤ c = omega (arith, is.4) in
    let most : c < 0x110000 = omega (arith, is.0, is.1, is.2, is.3, is.4) in
    (scalar_from c least most, least)

-- ---- characters

for_itself : (c : ℕ) → (c == 34 || c == 92) ≡ true → unescaped c ≡ Some c
for_itself c test = rw test refl

from_space : (c : ℕ) → is_from 0x20 0x7e c ≡ true → 0x20 ≤ c
from_space c test = grind (arith, nat_tests)

to_tilde : (c : ℕ) → is_from 0x20 0x7e c ≡ true → c < 128
to_tilde c test = grind (arith, nat_tests)

no_quote : (c : ℕ) → (c == 34) ≡ false → c ≡ 34 → ⊥
no_quote c test quote = grind (arith, nat_tests)

no_backslash : (c : ℕ) → (c == 92) ≡ false → c ≡ 92 → ⊥
no_backslash c test backslash = grind (arith, nat_tests)

printable_by : (c : ℕ) (printable : Bool) → is_from 0x20 0x7e c ≡ printable → (c == 34 || c == 92) ≡ false → IsScalar c
    → IsJsonCharacter c (if printable then c ∷ [] else ascii_escape c)
printable_by c true test plain is =
    let parts = or_parts (c == 34) (c == 92) plain in
    inl (from_space c test, no_quote c parts.0, no_backslash c parts.1, sym (encode_ascii c (to_tilde c test)))
printable_by c false test plain is = inr (inr (number_is c (no_surrogate c is) (scalar_most c is)))

character_by : (c : ℕ) (escaped : Bool) → (c == 34 || c == 92) ≡ escaped → IsScalar c
    → IsJsonCharacter c (if escaped then 92 ∷ c ∷ [] else (if is_from 0x20 0x7e c then c ∷ [] else ascii_escape c))
character_by c true test is = inr (inl (c, for_itself c test, refl))
character_by c false test is = printable_by c (is_from 0x20 0x7e c) refl test is

pub ascii_characters : (cs : List ℕ) → AllByRecursion IsScalar cs → AreCharacters cs (flat_map ascii_character cs)
ascii_characters [] are = refl
ascii_characters (c ∷ cs) are =
    (ascii_character c, flat_map ascii_character cs, refl, character_by c (c == 34 || c == 92) refl are.0, ascii_characters cs are.1)

-- ---- the G clef

upper_is : (c : ℕ) → c < 65536 → IsUnitEscape c (codes "\\u" ++ encode_upper (c / 256 ∷ c % 256 ∷ []))
upper_is c fits =
    (c / 256, c % 256, encode_upper (c / 256 ∷ c % 256 ∷ []), decode_of-encode_upper (c / 256 ∷ c % 256 ∷ []) (two_bytes (c / 256) (c % 256) (omega arith) (omega arith)), omega arith, refl)

clef_high : IsUnitEscape 0xd834 (codes "\\uD834")
unfolding encode_with
clef_high = upper_is 0xd834 (omega arith)

clef_low : IsUnitEscape 0xdd1e (codes "\\uDD1E")
unfolding encode_with
clef_low = upper_is 0xdd1e (omega arith)

clef_scalar : IsScalar 0x1d11e
clef_scalar = grind (arith, nat_tests)

pub clef : IsValue (String (0x1d11e ∷ [])) (codes "\"\\uD834\\uDD1E\"")
clef = (
  (clef_scalar, tt),
  (
    codes "\"",
    codes "\\uD834\\uDD1E\"",
    refl,
    refl,
    (
      codes "\\uD834\\uDD1E",
      codes "\"",
      refl,
      (
        codes "\\uD834\\uDD1E",
        [],
        refl,
        inr (inr (inr (0xd834, 0xdd1e, (omega arith, omega arith, omega arith, omega arith, omega arith), (codes "\\uD834", codes "\\uDD1E", refl, clef_high, clef_low)))),
        refl,
      ),
      refl,
    ),
  ),
)
