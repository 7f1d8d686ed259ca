-- Texts that are no value's.
use Rattle.std.proofs.Common.{◌≡◌, ◌≢◌, ℕ, ◌≤◌, inl, inr, Bool, true, false, if◌then◌else◌, List, [], ◌∷◌, ◌++◌, drop, codes, refl, sym, ap, ◌∙◌, subst, arith, append_assoc, append-nil}
use Rattle.std.specs.Char.{encode_utf8}
use Rattle.std.proofs.lemmas.Fmt.{decimal_digit}
use Rattle.std.proofs.lemmas.Str.{char_from_byte}
use Rattle.hex.specs.Hex.{encode_with}
use Rattle.wsn_shown_text.specs.QuotedTexts.{IsUnitEscape, IsJsonCharacter}
use Rattle.wsn_laws.proofs.JsonTexts.{escape_is, escape_begins, plain_first, short_or_unicode, unit_bytes, pair_bytes, one_unit}
use Rattle.wsn_laws.specs.JsonText.{Are, ◌and_then◌, AreCharacters, IsString, IsNumber, Value, Null, True, False, Number, String, Object, Members, End, Member, IsValue, AreOthers}
use Rattle.wsn_laws.proofs.Strings.{are_unescaped, plain_string, one_string, string_bytes}
use Rattle.wsn_laws.proofs.Numbers.{is_numeric, AreNumeric, Stops, number_characters, one_number}
use Rattle.wsn_laws.proofs.OneValue.{Begins, kind, begins, one_class, rest_stops, same_kind, one_value, StopsAfter, stops_after}
use Rattle.wsn_laws.proofs.Words.{decimal_number}
use Rattle.wsn_laws.proofs.RefusedNumbers.{Start, run, accepts, no_number}

-- ---- an object's text has one end

pub object_ends : (m : Members) (other : Value) (text more : List ℕ) → IsValue (Object m) text → IsValue other (text ++ more) → more ≡ []
object_ends m other text more is also =
    (one_value (Object m) other text (text ++ more) more [] is also tt (stops_after other [] tt) (sym (append-nil (text ++ more)))).1

stops_by_kind : (v : Value) (more : List ℕ) → kind v ≡ 123 → StopsAfter v more
stops_by_kind Null more same = tt
stops_by_kind True more same = tt
stops_by_kind False more same = tt
stops_by_kind (Number digits) more same = absurd (omega arith)
stops_by_kind (String characters) more same = tt
stops_by_kind (Object members) more same = tt

pub object_not_cut : (m : Members) (other : Value) (text more : List ℕ) → IsValue (Object m) (text ++ more) → IsValue other text → more ≡ []
object_not_cut m other text more is also =
    let same : (text ++ more) ++ [] ≡ text ++ more = append-nil (text ++ more) in
    let kinds : 123 ≡ kind other = same_kind (Object m) other (text ++ more) text [] more is also same in
    sym (one_value (Object m) other (text ++ more) text [] more is also tt (stops_by_kind other more (sym kinds)) same).1

-- ---- what a text begins with

value_begins : (v : Value) (p : List ℕ) → IsValue v p → Begins (kind v) p
value_begins v p is = subst (Begins (kind v)) (append-nil p) (begins v p [] is)

-- A value begins like the text that it is at the front of.
front_begins : (v : Value) (Q : List ℕ → Type 0) (p : List ℕ) → (IsValue v and_then Q) p → Begins (kind v) p
front_begins v Q p is = subst (Begins (kind v)) (sym is.2) (begins v is.0 is.1 is.3)

name_begins : (name : List ℕ) (Q : List ℕ → Type 0) (p : List ℕ) → (IsString name and_then Q) p → Begins 34 p
name_begins name Q p is = subst (Begins 34) (sym is.2) (begins (String name) is.0 is.1 is.3)

-- ---- one part after another

byte : (b : ℕ) (Q : List ℕ → Type 0) (bytes : List ℕ) → (Are (b ∷ []) and_then Q) (b ∷ bytes) → Q bytes
byte b Q bytes is =
    let whole : b ∷ bytes ≡ b ∷ is.1 = is.2 ∙ ap (λ (bs : List ℕ). bs ++ is.1) is.3 in
    subst Q (sym (ap (drop 1) whole)) is.4

other_byte : (b c : ℕ) (Q : List ℕ → Type 0) (bytes : List ℕ) → (Are (b ∷ []) and_then Q) (c ∷ bytes) → c ≡ b
other_byte b c Q bytes is =
    let whole : c ∷ bytes ≡ b ∷ is.1 = is.2 ∙ ap (λ (bs : List ℕ). bs ++ is.1) is.3 in
    cc

known_name : (name known : List ℕ) (Q : List ℕ → Type 0) (bytes : List ℕ) → are_unescaped known ≡ true → (IsString name and_then Q) ((34 ∷ (known ++ (34 ∷ []))) ++ bytes) → Q bytes
known_name name known Q bytes plain is =
    subst Q (one_string name known is.0 (34 ∷ (known ++ (34 ∷ []))) is.1 bytes is.3 (plain_string known plain) (sym is.2)).1 is.4

record HasMember (bytes : List ℕ) : Type 0 where
  name : List ℕ
  value : Value
  others : Members
  is : (IsString name and_then Are (codes ":") and_then IsValue value and_then AreOthers others and_then Are (codes "}")) bytes

brace_kind : (v : Value) (bytes : List ℕ) → IsValue v (123 ∷ bytes) → kind v ≡ 123
brace_kind v bytes is = one_class (kind v) 123 (123 ∷ bytes) (value_begins v (123 ∷ bytes) is) (123, bytes, refl, refl)

object : (v : Value) (b : ℕ) (bytes : List ℕ) → b ≢ 125 → IsValue v (123 ∷ b ∷ bytes) → HasMember (b ∷ bytes)
object Null b bytes some is = let kinds : kind Null ≡ 123 = brace_kind Null (b ∷ bytes) is in absurd (omega arith)
object True b bytes some is = let kinds : kind True ≡ 123 = brace_kind True (b ∷ bytes) is in absurd (omega arith)
object False b bytes some is = let kinds : kind False ≡ 123 = brace_kind False (b ∷ bytes) is in absurd (omega arith)
object (Number digits) b bytes some is = let kinds : kind (Number digits) ≡ 123 = brace_kind (Number digits) (b ∷ bytes) is in absurd (omega arith)
object (String characters) b bytes some is = let kinds : kind (String characters) ≡ 123 = brace_kind (String characters) (b ∷ bytes) is in absurd (omega arith)
object (Object End) b bytes some is =
    let inner : b ∷ bytes ≡ 125 ∷ [] = ap (drop 1) is in
    let head : b ≡ 125 = cc in
    absurd (some head)
object (Object (Member name value others)) b bytes some is = record {
  name = name;
  value = value;
  others = others;
  is = byte 123 (IsString name and_then Are (codes ":") and_then IsValue value and_then AreOthers others and_then Are (codes "}")) (b ∷ bytes) is;
}

-- What follows `{"a"` in a text.
record HasRest (bytes : List ℕ) : Type 0 where
  value : Value
  others : Members
  is : (Are (codes ":") and_then IsValue value and_then AreOthers others and_then Are (codes "}")) bytes

after_name : (v : Value) (bytes : List ℕ) → IsValue v (codes "{\"a\"" ++ bytes) → HasRest bytes
after_name v bytes is =
    let has = object v 34 (codes "a\"" ++ bytes) (λ same. absurd (omega arith)) is in
    record {
      value = has.value;
      others = has.others;
      is = known_name has.name (codes "a") (Are (codes ":") and_then IsValue has.value and_then AreOthers has.others and_then Are (codes "}")) bytes refl has.is;
    }

-- What follows `{"a":`.
record HasValue (bytes : List ℕ) : Type 0 where
  value : Value
  others : Members
  is : (IsValue value and_then AreOthers others and_then Are (codes "}")) bytes

after_colon : (v : Value) (bytes : List ℕ) → IsValue v (codes "{\"a\":" ++ bytes) → HasValue bytes
after_colon v bytes is =
    let has = after_name v (58 ∷ bytes) is in
    record {
      value = has.value;
      others = has.others;
      is = byte 58 (IsValue has.value and_then AreOthers has.others and_then Are (codes "}")) bytes has.is;
    }

-- ---- what is refused

pub no_empty : (v : Value) → IsValue v [] → ⊥
no_empty v is =
    let first = value_begins v [] is in
    let none : [] ≡ first.0 ∷ first.1 = first.2 in
    cc

-- {a:1}
pub no_bare_name : (v : Value) → IsValue v (codes "{a:1}") → ⊥
no_bare_name v is =
    let has = object v 97 (codes ":1}") (λ same. absurd (omega arith)) is in
    let kinds = one_class 34 97 (codes "a:1}")
    (name_begins has.name (Are (codes ":") and_then IsValue has.value and_then AreOthers has.others and_then Are (codes "}")) (codes "a:1}") has.is)
    (97, codes ":1}", refl, refl) in
    apart 34 97 refl refl kinds
  where
    apart : (k l : ℕ) → k ≡ 34 → l ≡ 97 → k ≡ l → ⊥
    apart k l is_k is_l same = omega arith

-- {"a" 1}
pub no_colon : (v : Value) → IsValue v (codes "{\"a\" 1}") → ⊥
no_colon v is =
    let has = after_name v (codes " 1}") is in
    apart 32 58 refl refl (other_byte 58 32 (IsValue has.value and_then AreOthers has.others and_then Are (codes "}")) (codes "1}") has.is)
  where
    apart : (k l : ℕ) → k ≡ 32 → l ≡ 58 → k ≡ l → ⊥
    apart k l is_k is_l same = omega arith

-- {"a":}
no_brace : (v : Value) → kind v ≡ 125 → ⊥
no_brace Null same = omega arith
no_brace True same = omega arith
no_brace False same = omega arith
no_brace (Number digits) same = omega arith
no_brace (String characters) same = omega arith
no_brace (Object members) same = omega arith

pub no_value : (v : Value) → IsValue v (codes "{\"a\":}") → ⊥
no_value v is =
    let has = after_colon v (codes "}") is in
    no_brace has.value (one_class (kind has.value) 125 (codes "}") (front_begins has.value (AreOthers has.others and_then Are (codes "}")) (codes "}") has.is) (125, [], refl, refl))

-- {"a":1,}
tail_stops : (m : Members) (p : List ℕ) → (AreOthers m and_then Are (codes "}")) p → Stops p
tail_stops m p is = subst Stops (append-nil p) (rest_stops m p [] is)

no_tail : (m : Members) → (AreOthers m and_then Are (codes "}")) (codes ",}") → ⊥
no_tail End is =
    let whole : codes ",}" ≡ codes "}" = is.2 ∙ ap (λ (bs : List ℕ). bs ++ is.1) is.3 ∙ is.4 in
    cc
no_tail (Member name value others) is =
    let first = is.3 in
    let whole : 44 ∷ 125 ∷ [] ≡ 44 ∷ (first.1 ++ is.1) = is.2 ∙ ap (λ (bs : List ℕ). bs ++ is.1) (first.2 ∙ ap (λ (bs : List ℕ). bs ++ first.1) first.3) in
    let named = first.4 in
    let bytes : 125 ∷ [] ≡ named.0 ++ (named.1 ++ is.1) =
    ap (drop 1) whole ∙ ap (λ (bs : List ℕ). bs ++ is.1) named.2 ∙ append_assoc named.0 named.1 is.1 in
    let quote : Begins 34 (125 ∷ []) = subst (Begins 34) (sym bytes) (begins (String name) named.0 (named.1 ++ is.1) named.3) in
    apart 34 125 refl refl (one_class 34 125 (125 ∷ []) quote (125, [], refl, refl))
  where
    apart : (k l : ℕ) → k ≡ 34 → l ≡ 125 → k ≡ l → ⊥
    apart k l is_k is_l same = omega arith

one_digit : IsNumber (codes "1")
one_digit = subst IsNumber (decimal_digit 1 (omega arith)) (decimal_number 1 (omega arith))

pub no_last_comma : (v : Value) → IsValue v (codes "{\"a\":1,}") → ⊥
no_last_comma v is =
    let has = after_colon v (codes "1,}") is in
    let x = has.is in
    let ends = (one_value has.value (Number (codes "1")) x.0 (codes "1") x.1 (codes ",}") x.3 (refl, one_digit)
    (stops_after has.value x.1 (tail_stops has.others x.1 x.4)) refl (sym x.2)).1 in
    no_tail has.others (subst (AreOthers has.others and_then Are (codes "}")) ends x.4)

-- A value that is a number by its first byte, before the end of the object.
the_number : (v : Value) (m : Members) (digits : List ℕ) → kind v ≡ 48 → AreNumeric digits → (IsValue v and_then AreOthers m and_then Are (codes "}")) (digits ++ codes "}") → IsNumber digits
the_number Null m digits same are is = absurd (omega arith)
the_number True m digits same are is = absurd (omega arith)
the_number False m digits same are is = absurd (omega arith)
the_number (String characters) m digits same are is = absurd (omega arith)
the_number (Object members) m digits same are is = absurd (omega arith)
the_number (Number d) m digits same are is =
    let value = is.3 in
    let ends = (one_number d digits is.1 (codes "}") (number_characters d value.1) are (tail_stops m is.1 is.4) refl
    (ap (λ (bs : List ℕ). bs ++ is.1) (sym value.0) ∙ sym is.2)).0 in
    subst IsNumber ends value.1

number_in : (v : Value) (b : ℕ) (digits : List ℕ) → is_numeric b ≡ true → AreNumeric digits → IsValue v (codes "{\"a\":" ++ ((b ∷ digits) ++ codes "}")) → IsNumber (b ∷ digits)
number_in v b digits first are is =
    let has = after_colon v ((b ∷ digits) ++ codes "}") is in
    the_number has.value has.others (b ∷ digits)
    (one_class (kind has.value) 48 ((b ∷ digits) ++ codes "}")
    (front_begins has.value (AreOthers has.others and_then Are (codes "}")) ((b ∷ digits) ++ codes "}") has.is)
    (b, digits ++ codes "}", refl, ap (λ (t : Bool). if t then 48 else b) first))
    (first, are) has.is

-- The digits are no number, by the machine, so no value.
pub no_digits : (v : Value) (b : ℕ) (digits : List ℕ) → is_numeric b ≡ true → AreNumeric digits → accepts (run Start (b ∷ digits)) ≡ false → IsValue v (codes "{\"a\":" ++ ((b ∷ digits) ++ codes "}")) → ⊥
no_digits v b digits first are refused is = no_number (b ∷ digits) refused (number_in v b digits first are is)

-- {"a":"LF"}, with an LF as it is.
no_line_feed : (cs inner y x : List ℕ) → AreCharacters cs inner → inner ++ (34 ∷ y) ≡ 10 ∷ x → ⊥
no_line_feed [] inner y x are same =
    let whole : 34 ∷ y ≡ 10 ∷ x = ap (λ (bs : List ℕ). bs ++ (34 ∷ y)) (sym are) ∙ same in
    cc
no_line_feed (c ∷ cs) inner y x are same =
    character c are.0 (are.1 ++ (34 ∷ y)) x are.3 (sym (append_assoc are.0 are.1 (34 ∷ y)) ∙ ap (λ (bs : List ℕ). bs ++ (34 ∷ y)) (sym are.2) ∙ same)
  where
    backslash : (xs ys : List ℕ) → 92 ∷ xs ≡ 10 ∷ ys → ⊥
    backslash xs ys same = cc

    low : (d : ℕ) → 32 ≤ d → d ≡ 10 → ⊥
    low d high same = omega arith

    character : (c : ℕ) (bytes rest x : List ℕ) → IsJsonCharacter c bytes → bytes ++ rest ≡ 10 ∷ x → ⊥
    character c bytes rest x (inl plain) same =
        let front : 10 ∷ x ≡ encode_utf8 c ++ rest = sym same ∙ ap (λ (bs : List ℕ). bs ++ rest) plain.3 in
        low c plain.0 (char_from_byte (10 ∷ x) rest c front (omega arith) (omega arith))
    character c bytes rest x (inr (inl short)) same = backslash (short.0 ∷ rest) x (ap (λ (bs : List ℕ). bs ++ rest) (sym short.2) ∙ same)
    character c bytes rest x (inr (inr escape)) same =
        let begins = escape_begins c bytes rest escape in
        backslash (117 ∷ begins.0) x (sym begins.1 ∙ same)

string_at : (v : Value) (p : List ℕ) → kind v ≡ 34 → IsValue v p → (cs : List ℕ) × IsString cs p
string_at Null p same is = absurd (omega arith)
string_at True p same is = absurd (omega arith)
string_at False p same is = absurd (omega arith)
string_at (Number digits) p same is = absurd (omega arith)
string_at (Object members) p same is = absurd (omega arith)
string_at (String characters) p same is = (characters, is)

pub no_raw_line_feed : (v : Value) → IsValue v (codes "{\"a\":\"\n\"}") → ⊥
no_raw_line_feed v is =
    let has = after_colon v (codes "\"\n\"}") is in
    let x = has.is in
    let text = string_at has.value x.0
    (one_class (kind has.value) 34 (codes "\"\n\"}") (front_begins has.value (AreOthers has.others and_then Are (codes "}")) (codes "\"\n\"}") has.is) (34, codes "\n\"}", refl, refl)) x.3 in
    let s = text.1.1 in
    let inner = s.4 in
    let string : x.0 ≡ 34 ∷ (inner.0 ++ (34 ∷ [])) = s.2 ∙ ap (λ (bs : List ℕ). bs ++ s.1) s.3 ∙ ap (λ (bs : List ℕ). 34 ∷ bs) (inner.2 ∙ ap (λ (bs : List ℕ). inner.0 ++ bs) inner.4) in
    let whole : codes "\"\n\"}" ≡ 34 ∷ (inner.0 ++ (34 ∷ x.1)) =
    x.2 ∙ ap (λ (bs : List ℕ). bs ++ x.1) string ∙ ap (λ (bs : List ℕ). 34 ∷ bs) (append_assoc inner.0 (34 ∷ []) x.1) in
    no_line_feed text.0 inner.0 x.1 (codes "\"}") inner.3 (sym (ap (drop 1) whole))

-- ---- a surrogate without its partner

-- What follows an escape isn't the escape of a low surrogate.
abbrev IsNoPartner : ℕ → List ℕ → Type 0
IsNoPartner x more = (low : ℕ) (bytes rest : List ℕ) → IsUnitEscape low bytes → bytes ++ rest ≡ more → x ≤ 0xdbff → 0xdc00 ≤ low → ⊥

alone_in : (x : ℕ) (escape more cs inner : List ℕ) → IsUnitEscape x escape → 0xd800 ≤ x → x ≤ 0xdfff → IsNoPartner x more
    → AreCharacters cs inner → inner ++ (34 ∷ []) ≡ escape ++ more → ⊥
alone_in x escape more [] inner is from to none are same =
    let whole : 34 ∷ [] ≡ 92 ∷ 117 ∷ (is.2 ++ more) = ap (λ (bs : List ℕ). bs ++ (34 ∷ [])) (sym are) ∙ same ∙ unit_bytes x escape more is in
    cc
alone_in x escape more (c ∷ cs) inner is from to none are same =
    first c are.0 (are.1 ++ (34 ∷ [])) are.3 (sym (append_assoc are.0 are.1 (34 ∷ [])) ∙ ap (λ (bs : List ℕ). bs ++ (34 ∷ [])) (sym are.2) ∙ same)
  where
    first : (c : ℕ) (bytes rest : List ℕ) → IsJsonCharacter c bytes → bytes ++ rest ≡ escape ++ more → ⊥
    first c bytes rest (inl plain) same =
        plain_first c bytes rest (117 ∷ (is.2 ++ more)) plain (same ∙ unit_bytes x escape more is)
    first c bytes rest (inr (inl short)) same =
        short_or_unicode c short.0 rest (is.2 ++ more) short.1 (ap (λ (bs : List ℕ). bs ++ rest) (sym short.2) ∙ same ∙ unit_bytes x escape more is)
    first c bytes rest (inr (inr (inl unicode))) same =
        let is_x : c ≡ x = (one_unit c x bytes escape rest more unicode.0 is same).0 in
        unicode.1 (omega (arith, is_x, from), omega (arith, is_x, to))
    first c bytes rest (inr (inr (inr pair))) same =
        let parts = one_unit pair.0 x pair.3.0 escape (pair.3.1 ++ rest) more pair.3.3 is (sym (pair_bytes c bytes rest pair) ∙ same) in
        none pair.1 pair.3.1 rest pair.3.4 parts.1 (omega (arith, parts.0, pair.2.1)) pair.2.2

alone : (v : Value) (x : ℕ) (escape more : List ℕ) → IsUnitEscape x escape → 0xd800 ≤ x → x ≤ 0xdfff → IsNoPartner x more → IsValue v (34 ∷ (escape ++ more)) → ⊥
alone v x escape more is from to none value =
    let quote : Begins 34 ((34 ∷ (escape ++ more)) ++ []) = (34, (escape ++ more) ++ [], refl, refl) in
    let text = string_at v (34 ∷ (escape ++ more)) (one_class (kind v) 34 ((34 ∷ (escape ++ more)) ++ []) (begins v (34 ∷ (escape ++ more)) [] value) quote) value in
    let whole = string_bytes text.0 (34 ∷ (escape ++ more)) [] text.1 in
    alone_in x escape more text.0 text.1.1.4.0 is from to none text.1.1.4.3 (sym (ap (drop 1) whole) ∙ append-nil (escape ++ more))

high_escape : IsUnitEscape 0xd83d (codes "\\ud83d")
unfolding encode_with
high_escape = escape_is 0xd83d (omega arith)

low_escape : IsUnitEscape 0xde00 (codes "\\ude00")
unfolding encode_with
low_escape = escape_is 0xde00 (omega arith)

letter_escape : IsUnitEscape 0x41 (codes "\\u0041")
unfolding encode_with
letter_escape = escape_is 0x41 (omega arith)

pub no_lone_surrogate : (v : Value) → IsValue v (codes "\"\\ud83d\"") → ⊥
no_lone_surrogate v = alone v 0xd83d (codes "\\ud83d") (codes "\"") high_escape (omega arith) (omega arith) none
  where
    none : IsNoPartner 0xd83d (codes "\"")
    none low bytes rest is same high from =
        let whole : 34 ∷ [] ≡ 92 ∷ 117 ∷ (is.2 ++ rest) = sym same ∙ unit_bytes low bytes rest is in
        cc

pub no_turned_surrogates : (v : Value) → IsValue v (codes "\"\\ude00\\ud83d\"") → ⊥
no_turned_surrogates v = alone v 0xde00 (codes "\\ude00") (codes "\\ud83d\"") low_escape (omega arith) (omega arith) none
  where
    none : IsNoPartner 0xde00 (codes "\\ud83d\"")
    none low bytes rest is same high from = absurd (omega arith)

pub no_surrogate_and_letter : (v : Value) → IsValue v (codes "\"\\ud83d\\u0041\"") → ⊥
no_surrogate_and_letter v = alone v 0xd83d (codes "\\ud83d") (codes "\\u0041\"") high_escape (omega arith) (omega arith) none
  where
    none : IsNoPartner 0xd83d (codes "\\u0041\"")
    none low bytes rest is same high from =
        let letter : low ≡ 0x41 = (one_unit low 0x41 bytes (codes "\\u0041") rest (codes "\"") is letter_escape same).0 in
        absurd (omega (arith, letter, from))
