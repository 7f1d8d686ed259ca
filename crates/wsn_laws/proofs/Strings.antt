-- A string at the front of bytes is the only one there.
use Rattle.std.proofs.Common.{◌≡◌, ℕ, ◌<◌, ◌≤◌, inl, inr, Bool, true, ◌&&◌, ◌||◌, List, [], ◌∷◌, ◌++◌, drop, refl, sym, ap, ◌∙◌, arith, append_assoc}
use Rattle.std.proofs.lemmas.Bool.Decides.{nat_tests}
use Rattle.std.proofs.lemmas.Bool.{and_parts}
use Rattle.std.proofs.lemmas.Str.{encode_ascii, char_from_byte}
use Rattle.std.specs.Char.{IsScalar, encode_utf8}
use Rattle.std.specs.List.{AllByRecursion}
use Rattle.wsn_print.specs.EscapedText.{is_from}
use Rattle.wsn_shown_text.specs.QuotedTexts.{IsPlain, IsJsonCharacter, AreJsonCharacters}
use Rattle.wsn_laws.proofs.JsonTexts.{escape_begins, one_character}
use Rattle.wsn_laws.specs.JsonText.{AreCharacters, IsString}

-- ---- one character

-- It doesn't begin with a quotation mark.
no_quote_plain : (c : ℕ) (bytes rest more : List ℕ) → IsPlain c bytes → bytes ++ rest ≡ 34 ∷ more → ⊥
no_quote_plain c bytes rest more plain same =
    let front : 34 ∷ more ≡ encode_utf8 c ++ rest = sym same ∙ ap (λ (bs : List ℕ). bs ++ rest) plain.3 in
    plain.1 (char_from_byte (34 ∷ more) rest c front (omega arith) (omega arith))

backslash_or_quote : (xs ys : List ℕ) → 92 ∷ xs ≡ 34 ∷ ys → ⊥
backslash_or_quote xs ys same = cc

pub no_quote_first : (c : ℕ) (bytes rest more : List ℕ) → IsJsonCharacter c bytes → bytes ++ rest ≡ 34 ∷ more → ⊥
no_quote_first c bytes rest more (inl plain) same = no_quote_plain c bytes rest more plain same
no_quote_first c bytes rest more (inr (inl short)) same =
    backslash_or_quote (short.0 ∷ rest) more (ap (λ (bs : List ℕ). bs ++ rest) (sym short.2) ∙ same)
no_quote_first c bytes rest more (inr (inr escape)) same =
    let begins = escape_begins c bytes rest escape in
    backslash_or_quote (117 ∷ begins.0) more (sym begins.1 ∙ same)

-- The characters of a JSON string.
pub one_after_another : (cs bytes : List ℕ) → AreJsonCharacters cs bytes → AreCharacters cs bytes
one_after_another [] bytes are = are
one_after_another (c ∷ cs) bytes are = (are.0, are.1, are.2, are.3, one_after_another cs are.1 are.4)

-- ---- characters up to a quotation mark

one_run : (cs ds a b r t : List ℕ) → AllByRecursion IsScalar cs → AllByRecursion IsScalar ds → AreCharacters cs a → AreCharacters ds b → a ++ (34 ∷ r) ≡ b ++ (34 ∷ t) → (cs ≡ ds) × (r ≡ t)
one_run [] [] a b r t scalar also is_a is_b same =
    let ends : 34 ∷ r ≡ 34 ∷ t = ap (λ (bs : List ℕ). bs ++ (34 ∷ r)) (sym is_a) ∙ same ∙ ap (λ (bs : List ℕ). bs ++ (34 ∷ t)) is_b in
    (refl, cc)
one_run [] (d ∷ ds) a b r t scalar also is_a is_b same =
    absurd (no_quote_first d is_b.0 (is_b.1 ++ (34 ∷ t)) r is_b.3 (sym (append_assoc is_b.0 is_b.1 (34 ∷ t)) ∙ ap (λ (bs : List ℕ). bs ++ (34 ∷ t)) (sym is_b.2) ∙ sym same ∙ ap (λ (bs : List ℕ). bs ++ (34 ∷ r)) is_a))
one_run (c ∷ cs) [] a b r t scalar also is_a is_b same =
    absurd (no_quote_first c is_a.0 (is_a.1 ++ (34 ∷ r)) t is_a.3 (sym (append_assoc is_a.0 is_a.1 (34 ∷ r)) ∙ ap (λ (bs : List ℕ). bs ++ (34 ∷ r)) (sym is_a.2) ∙ same ∙ ap (λ (bs : List ℕ). bs ++ (34 ∷ t)) is_b))
one_run (c ∷ cs) (d ∷ ds) a b r t scalar also is_a is_b same =
    let first = one_character c d is_a.0 is_b.0 (is_a.1 ++ (34 ∷ r)) (is_b.1 ++ (34 ∷ t)) is_a.3 is_b.3 (sym (append_assoc is_a.0 is_a.1 (34 ∷ r)) ∙ ap (λ (bs : List ℕ). bs ++ (34 ∷ r)) (sym is_a.2) ∙ same ∙ ap (λ (bs : List ℕ). bs ++ (34 ∷ t)) is_b.2 ∙ append_assoc is_b.0 is_b.1 (34 ∷ t)) in
    let others = one_run cs ds is_a.1 is_b.1 r t scalar.1 also.1 is_a.4 is_b.4 first.1 in
    let heads : c ≡ d = first.0 in
    let tails : cs ≡ ds = others.0 in
    (cc, others.1)

-- ---- a string

-- A string's bytes, with those after it.
pub string_bytes : (cs p r : List ℕ) (is : IsString cs p) → p ++ r ≡ 34 ∷ (is.1.4.0 ++ (34 ∷ r))
string_bytes cs p r is =
    let text = is.1 in
    let inner = text.4.0 in
    let whole : p ≡ 34 ∷ (inner ++ (34 ∷ [])) =
    text.2 ∙ ap (λ (bs : List ℕ). bs ++ text.1) text.3 ∙ ap (λ (bs : List ℕ). 34 ∷ bs) (text.4.2 ∙ ap (λ (bs : List ℕ). inner ++ bs) text.4.4) in
    ap (λ (bs : List ℕ). bs ++ r) whole ∙ ap (λ (bs : List ℕ). 34 ∷ bs) (append_assoc inner (34 ∷ []) r)

pub one_string : (cs ds p q r t : List ℕ) → IsString cs p → IsString ds q → p ++ r ≡ q ++ t → (cs ≡ ds) × (r ≡ t)
one_string cs ds p q r t a b same =
    let whole : 34 ∷ (a.1.4.0 ++ (34 ∷ r)) ≡ 34 ∷ (b.1.4.0 ++ (34 ∷ t)) = sym (string_bytes cs p r a) ∙ same ∙ string_bytes ds q t b in
    one_run cs ds a.1.4.0 b.1.4.0 r t a.0 b.0 a.1.4.3 b.1.4.3 (ap (drop 1) whole)

-- ---- a string of characters that need no escape

-- A printable ASCII character, other than a quotation mark or a backslash.
abbrev pub is_unescaped : ℕ → Bool
is_unescaped c = is_from 32 33 c || is_from 35 91 c || is_from 93 126 c

-- Each character is.
abbrev pub are_unescaped : List ℕ → Bool
are_unescaped [] = true
are_unescaped (c ∷ cs) = is_unescaped c && are_unescaped cs

from_space : (c : ℕ) → is_unescaped c ≡ true → 32 ≤ c
from_space c is = grind (arith, nat_tests)

below_delete : (c : ℕ) → is_unescaped c ≡ true → c < 128
below_delete c is = grind (arith, nat_tests)

no_quote : (c : ℕ) → is_unescaped c ≡ true → c ≡ 34 → ⊥
no_quote c is quote = grind (arith, nat_tests)

no_backslash : (c : ℕ) → is_unescaped c ≡ true → c ≡ 92 → ⊥
no_backslash c is backslash = grind (arith, nat_tests)

pub ascii_is_scalar : (c : ℕ) → c < 128 → IsScalar c
ascii_is_scalar c small = grind (arith, nat_tests)

pub plain_characters : (cs : List ℕ) → are_unescaped cs ≡ true → AreCharacters cs cs
plain_characters [] are = refl
plain_characters (c ∷ cs) are =
    let parts = and_parts (is_unescaped c) (are_unescaped cs) are in
    (c ∷ [], cs, refl, inl (from_space c parts.0, no_quote c parts.0, no_backslash c parts.0, sym (encode_ascii c (below_delete c parts.0))), plain_characters cs parts.1)

pub scalars : (cs : List ℕ) → are_unescaped cs ≡ true → AllByRecursion IsScalar cs
scalars [] are = tt
scalars (c ∷ cs) are =
    let parts = and_parts (is_unescaped c) (are_unescaped cs) are in
    (ascii_is_scalar c (below_delete c parts.0), scalars cs parts.1)

pub plain_string : (cs : List ℕ) → are_unescaped cs ≡ true → IsString cs (34 ∷ (cs ++ (34 ∷ [])))
plain_string cs are =
    (scalars cs are, (34 ∷ [], cs ++ (34 ∷ []), refl, refl, (cs, 34 ∷ [], refl, plain_characters cs are, refl)))
