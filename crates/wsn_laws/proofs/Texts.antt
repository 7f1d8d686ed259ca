-- Members, by their texts.
use Rattle.std.proofs.Common.{◌≡◌, ℕ, true, List, [], ◌∷◌, ◌++◌, codes, refl, sym, ap, ◌∙◌, subst, append_assoc, append-nil}
use Rattle.std.specs.Prelude.{decimal, flat_map}
use Rattle.std.specs.Char.{IsScalar}
use Rattle.std.specs.List.{AllByRecursion}
use Rattle.std.specs.Str.{chars, IsUtf8, all_scalars}
use Rattle.std.proofs.lemmas.Bool.{and_parts}
use Rattle.std.proofs.lemmas.Str.{scalars-chars}
use Rattle.wsn_print.specs.Json.{string_of, field}
use Rattle.wsn_print.specs.EscapedText.{quoted}
use Rattle.wsn_shown_text.specs.AsciiText.{ascii_character, ascii_quoted}
use Rattle.wsn_laws.proofs.JsonTexts.{quoted_is_json}
use Rattle.wsn_laws.specs.JsonText.{Value, Null, True, Number, String, Object, Members, End, Member, IsValue, AreOthers, IsJsonLine}
use Rattle.wsn_laws.specs.Answers.{IsInU64}
use Rattle.wsn_laws.proofs.Strings.{are_unescaped, one_after_another, plain_string}
use Rattle.wsn_laws.proofs.Escapes.{ascii_characters}
use Rattle.wsn_laws.proofs.Written.{write, IsPlainValue, text_of}
use Rattle.wsn_laws.proofs.Words.{decimal_number}
use Rattle.wsn_laws.proofs.Fields.{value_member}

-- The text is one of the value.
pub record IsTextOf (v : Value) (text : List ℕ) : Type 0 where
  pub is : IsValue v text

-- So is the text of the members after the first one.
pub record AreTextsOf (members : Members) (text : List ℕ) : Type 0 where
  pub are : AreOthers members text

pub none : AreTextsOf End []
none = record { are = refl }

pub member : {v : Value} {text following : List ℕ} {others : Members} (key : List ℕ) → are_unescaped key ≡ true → IsTextOf v text → AreTextsOf others following
    → AreTextsOf (Member key v others) (field key text ++ following)
member {v} {text} {following} {others} key plain value after = record {
  are = (
    44 ∷ [],
    34 ∷ (key ++ (34 ∷ 58 ∷ (text ++ following))),
    sym (value_member key text following),
    refl,
    (
      34 ∷ (key ++ (34 ∷ [])),
      58 ∷ (text ++ following),
      ap (λ (bs : List ℕ). 34 ∷ bs) (sym (append_assoc key (34 ∷ []) (58 ∷ (text ++ following)))),
      plain_string key plain,
      (58 ∷ [], text ++ following, refl, refl, (text, following, refl, value.is, after.are)),
    ),
  );
}

pub same_text : {members : Members} {text : List ℕ} (other : List ℕ) → AreTextsOf members text → text ≡ other → AreTextsOf members other
same_text {members} {text} other of same = record { are = subst (AreOthers members) same of.are }

pub last : {v : Value} {text : List ℕ} (key : List ℕ) → are_unescaped key ≡ true → IsTextOf v text → AreTextsOf (Member key v End) (field key text)
last {v} {text} key plain value = same_text (field key text) (member key plain value none) (append-nil (field key text))

-- ---- values

-- An object's text: its first member, and the others.
pub object_text : {v : Value} {text following : List ℕ} {others : Members} (key whole : List ℕ) → are_unescaped key ≡ true → IsTextOf v text → AreTextsOf others following
    → 123 ∷ 34 ∷ (key ++ (34 ∷ 58 ∷ (text ++ (following ++ codes "}")))) ≡ whole → IsTextOf (Object (Member key v others)) whole
object_text {v} {text} {following} {others} key whole plain value after same = record {
  is =
      subst (IsValue (Object (Member key v others))) same (
        codes "{",
        34 ∷ (key ++ (34 ∷ 58 ∷ (text ++ (following ++ codes "}")))),
        refl,
        refl,
        (
          34 ∷ (key ++ (34 ∷ [])),
          58 ∷ (text ++ (following ++ codes "}")),
          ap (λ (bs : List ℕ). 34 ∷ bs) (sym (append_assoc key (34 ∷ []) (58 ∷ (text ++ (following ++ codes "}"))))),
          plain_string key plain,
          (58 ∷ [], text ++ (following ++ codes "}"), refl, refl, (text, following ++ codes "}", refl, value.is, (following, codes "}", refl, after.are, refl))),
        ),
      );
}

pub null_text : IsTextOf Null (codes "null")
null_text = record { is = refl }

pub true_text : IsTextOf True (codes "true")
true_text = record { is = refl }

pub number_text : (n : ℕ) → IsInU64 n → IsTextOf (Number (decimal n)) (decimal n)
number_text n fits = record { is = (refl, decimal_number n fits) }

pub word_text : (word : List ℕ) → are_unescaped word ≡ true → IsTextOf (String word) (string_of word)
word_text word plain = record { is = plain_string word plain }

-- An object whose first member is its type.
pub typed_text : (kind text : List ℕ) (others : Members) → are_unescaped kind ≡ true → AreTextsOf others text
    → IsTextOf (Object (Member (codes "type") (String kind) others)) (codes "{\"type\":\"" ++ (kind ++ (codes "\"" ++ (text ++ codes "}"))))
typed_text kind text others plain are =
    object_text (codes "type") (codes "{\"type\":\"" ++ (kind ++ (codes "\"" ++ (text ++ codes "}")))) refl (word_text kind plain) are
    (ap (λ (bs : List ℕ). codes "{\"type\":\"" ++ bs) (append_assoc kind (34 ∷ []) (text ++ codes "}")))

-- A plain value that is written as this text.
pub plain_text : (v : Value) (text : List ℕ) → IsPlainValue v → ((rest : List ℕ) → write v rest ≡ text ++ rest) → IsTextOf v text
plain_text v text plain is =
    let whole = text_of v plain in
    let same : whole.0 ≡ text = sym (append-nil whole.0) ∙ sym (whole.1 []) ∙ is [] ∙ append-nil text in
    record { is = subst (IsValue v) same whole.2 }

pub each_scalar : (cs : List ℕ) → all_scalars cs ≡ true → AllByRecursion IsScalar cs
each_scalar [] all = tt
each_scalar (c ∷ cs) all =
    let parts = and_parts _ (all_scalars cs) all in
    (parts.0, each_scalar cs parts.1)

pub quoted_text : (text : List ℕ) → IsUtf8 text → IsTextOf (String (chars text)) (quoted text)
quoted_text text utf8 =
    let json = quoted_is_json text in
    record { is = (each_scalar (chars text) (scalars-chars text utf8), (34 ∷ [], json.inner ++ (34 ∷ []), json.between, refl, (json.inner, 34 ∷ [], refl, one_after_another (chars text) json.inner json.characters, refl))) }

pub ascii_text : (text : List ℕ) → IsUtf8 text → IsTextOf (String (chars text)) (ascii_quoted text)
ascii_text text utf8 =
    let each = each_scalar (chars text) (scalars-chars text utf8) in
    let inner = flat_map ascii_character (chars text) in
    record { is = (each, (34 ∷ [], inner ++ (34 ∷ []), refl, refl, (inner, 34 ∷ [], refl, ascii_characters (chars text) each, refl))) }

-- ---- a line

pub typed_line : (kind text : List ℕ) (others : Members) → are_unescaped kind ≡ true → AreTextsOf others text
    → IsJsonLine (Object (Member (codes "type") (String kind) others)) (codes "{\"type\":\"" ++ (kind ++ (codes "\"" ++ (text ++ codes "}\n"))))
typed_line kind text others plain are =
    let value = plain_string kind plain in
    let inner : List ℕ = (34 ∷ (kind ++ (34 ∷ []))) ++ (text ++ codes "}") in
    let whole : codes "{\"type\":\"" ++ (kind ++ (codes "\"" ++ (text ++ codes "}\n"))) ≡ (codes "{\"type\":" ++ inner) ++ codes "\n" =
    ap (λ (bs : List ℕ). codes "{\"type\":\"" ++ bs) (four kind text) in (
      codes "{\"type\":" ++ inner,
      codes "\n",
      whole,
      (
        codes "{",
        codes "\"type\":" ++ inner,
        refl,
        refl,
        (
          codes "\"type\"",
          codes ":" ++ inner,
          refl,
          plain_string (codes "type") refl,
          (
            codes ":",
            inner,
            refl,
            refl,
            (34 ∷ (kind ++ (34 ∷ [])), text ++ codes "}", refl, value, (text, codes "}", refl, are.are, refl)),
          ),
        ),
      ),
      refl,
    )
  where
    four : (kind text : List ℕ) → kind ++ (codes "\"" ++ (text ++ codes "}\n")) ≡ ((kind ++ (34 ∷ [])) ++ (text ++ codes "}")) ++ codes "\n"
    four kind text = simp append_assoc
