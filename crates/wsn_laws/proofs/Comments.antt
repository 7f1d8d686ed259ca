-- A comment's object is JSON with distinct names, and determines the comment.
use Rattle.std.proofs.Common.{◌≡◌, ℕ, ◌<◌, ◌==◌, Bool, true, false, if◌then◌else◌, List, [], ◌∷◌, ◌++◌, length, drop, codes, refl, sym, ap, ◌∙◌, subst, arith, append_assoc}
use Rattle.std.specs.Str.{chars, encode_utf8_all}
use Rattle.std.specs.Str.Lossy.{utf8_valid_len}
use Rattle.std.proofs.lemmas.Str.{encodes-chars}
use Rattle.hex.specs.Hex.{encode_lower}
use Rattle.wsn_wire.specs.Frame.{IsBytes}
use Rattle.wsn_print.specs.Json.{field, number_field}
use Rattle.wsn_print.specs.EscapedText.{quoted}
use Rattle.wsn_shown_text.specs.ShownObjects.{comment_object, comment_field, hex_field}
use Rattle.wsn_shown_text.proofs.VisibleTexts.{utf8_if_all}
use Rattle.wsn_laws.specs.JsonText.{Value, String, Object, Members, End, Member, HasDistinctNames, IsJsonLine, IsObjectLine}
use Rattle.wsn_laws.specs.Answers.{IsInU64}
use Rattle.wsn_laws.proofs.Fields.{number, one_number, one_line}
use Rattle.wsn_laws.proofs.Keys.{plain_digits, one_bytes}
use Rattle.wsn_laws.proofs.Distinct.{distinct}
use Rattle.wsn_laws.proofs.Texts.{AreTextsOf, last, member, quoted_text, number_text, word_text, typed_line}

-- ---- what follows the `#`

abbrev is_text : List ℕ → Bool
is_text text = utf8_valid_len text == length text

abbrev shown_by : Bool → List ℕ → Members
shown_by whole text = if whole then Member (codes "text") (String (chars text)) End else Member (codes "hex") (String (encode_lower text)) End

texts_by : (text : List ℕ) (whole : Bool) → is_text text ≡ whole → IsBytes text
    → AreTextsOf (shown_by whole text) (if whole then field (codes "text") (quoted text) else hex_field text)
texts_by text true is are = last (codes "text") refl (quoted_text text (utf8_if_all text is))
texts_by text false is are = last (codes "hex") refl (word_text (encode_lower text) (plain_digits text are))

one_by : (text other : List ℕ) (whole another : Bool) → is_text text ≡ whole → is_text other ≡ another → IsBytes text → IsBytes other
    → shown_by whole text ≡ shown_by another other → text ≡ other
one_by text other true true is too are also same =
    let characters : chars text ≡ chars other = cc in
    sym (encodes-chars text (utf8_if_all text is)) ∙ ap encode_utf8_all characters ∙ encodes-chars other (utf8_if_all other too)
one_by text other true false is too are also same = absurd (other_name same)
  where
    other_name : {value another : Value} → Member (codes "text") value End ≡ Member (codes "hex") another End → ⊥
    other_name {value} {another} same =
        let names : codes "text" ≡ codes "hex" = cc in
        cc
one_by text other false true is too are also same = absurd (other_name same)
  where
    other_name : {value another : Value} → Member (codes "hex") value End ≡ Member (codes "text") another End → ⊥
    other_name {value} {another} same =
        let names : codes "hex" ≡ codes "text" = cc in
        cc
one_by text other false false is too are also same =
    let digits : encode_lower text ≡ encode_lower other = cc in
    one_bytes text other are also digits

-- ---- the object

abbrev shown_in : List ℕ → Members
shown_in text = shown_by (is_text text) text

abbrev members_of : ℕ → List ℕ → Members
members_of line text = Member (codes "type") (String (codes "comment")) (Member (codes "line") (number line) (shown_in (drop 1 text)))

rest_bytes : (text : List ℕ) → IsBytes text → IsBytes (drop 1 text)
rest_bytes [] are = tt
rest_bytes (b ∷ text) are = are.1

object_line : (line : ℕ) (text : List ℕ) → IsInU64 line → IsBytes text → IsJsonLine (Object (members_of line text)) (comment_object line text)
object_line line text fits are =
    let shown = texts_by (drop 1 text) (is_text (drop 1 text)) refl (rest_bytes text are) in
    subst (IsJsonLine (Object (members_of line text)))
    (ends (number_field (codes "line") line) (comment_field (drop 1 text)))
    (typed_line (codes "comment") (number_field (codes "line") line ++ comment_field (drop 1 text)) (Member (codes "line") (number line) (shown_in (drop 1 text))) refl
    (member (codes "line") refl (number_text line fits) shown))
  where
    three : (a n c z : List ℕ) → a ++ ((n ++ c) ++ z) ≡ a ++ n ++ c ++ z
    three a n c z = simp append_assoc

    ends : (n c : List ℕ) → codes "{\"type\":\"comment\"" ++ ((n ++ c) ++ codes "}\n") ≡ codes "{\"type\":\"comment\"" ++ n ++ c ++ codes "}\n"
    ends n c = three (codes "{\"type\":\"comment\"") n c (codes "}\n")

distinct_by : (line : ℕ) (text : List ℕ) (whole : Bool)
    → HasDistinctNames (Object (Member (codes "type") (String (codes "comment")) (Member (codes "line") (number line) (shown_by whole text))))
distinct_by line text true =
    distinct (Member (codes "type") (String (codes "comment")) (Member (codes "line") (number line) (shown_by true text))) refl (tt, (tt, (tt, tt)))
distinct_by line text false =
    distinct (Member (codes "type") (String (codes "comment")) (Member (codes "line") (number line) (shown_by false text))) refl (tt, (tt, (tt, tt)))

pub comment_line : (line : ℕ) (text : List ℕ) → IsInU64 line → IsBytes text → IsObjectLine (comment_object line text)
comment_line line text fits are = (members_of line text, object_line line text fits are, distinct_by line (drop 1 text) (is_text (drop 1 text)))

-- ---- two comments

pub one_comment : (line other : ℕ) (text another : List ℕ) → IsInU64 line → IsInU64 other → IsBytes text → IsBytes another
    → comment_object line (codes "#" ++ text) ≡ comment_object other (codes "#" ++ another) → (line ≡ other) × (text ≡ another)
one_comment line other text another fits also are are_too same =
    let values : Object (members_of line (codes "#" ++ text)) ≡ Object (members_of other (codes "#" ++ another)) =
    one_line (Object (members_of line (codes "#" ++ text))) (Object (members_of other (codes "#" ++ another))) (comment_object other (codes "#" ++ another))
    (subst (IsJsonLine (Object (members_of line (codes "#" ++ text)))) same (object_line line (codes "#" ++ text) fits (small, are)))
    (object_line other (codes "#" ++ another) also (small, are_too)) in
    let numbers : number line ≡ number other = cc in
    let shown : shown_in text ≡ shown_in another = cc in
    (one_number line other fits also numbers, one_by text another (is_text text) (is_text another) refl refl are are_too shown)
  where
    small : 35 < 256
    small = omega arith
