-- The object that says who ended a connection is JSON with distinct names, and determines who and whether by a reset.
use Rattle.std.proofs.Common.{◌≡◌, ℕ, Bool, true, false, List, ◌++◌, codes, refl, ap, ◌∙◌, subst, append_assoc}
use Rattle.wsn_wire.specs.declared.endpoint.Role.{Role}
use Rattle.wsn_print.specs.Json.{string_field, field, boolean}
use Rattle.wsn_shown_text.specs.ShownObjects.{side_word}
use Rattle.wsn_capture.specs.declared.ended_by.EndedBy.{EndedBy}
use Rattle.wsn_show.specs.EndedByTexts.{ended_by_object}
use Rattle.wsn_laws.specs.JsonText.{Value, String, Object, Members, End, Member, IsJsonLine, IsObjectLine, HasDistinctNames}
use Rattle.wsn_laws.proofs.Distinct.{distinct}
use Rattle.wsn_laws.proofs.Fields.{one_line}
use Rattle.wsn_laws.proofs.Members.{boolean_json, one_boolean}
use Rattle.wsn_laws.proofs.Texts.{IsTextOf, AreTextsOf, last, member, word_text, typed_line}
use Rattle.wsn_laws.proofs.ShownJson.{plain_side}
use Rattle.wsn_laws.proofs.ShownReader.{one_role}

abbrev after_type : EndedBy → Members
after_type by = Member (codes "side") (String (side_word by.role)) (Member (codes "reset") (boolean_json by.reset) End)

abbrev value_of : EndedBy → Value
value_of by = Object (Member (codes "type") (String (codes "ended-by")) (after_type by))

abbrev text_after : EndedBy → List ℕ
text_after by = string_field (codes "side") (side_word by.role) ++ field (codes "reset") (boolean by.reset)

boolean_text : (b : Bool) → IsTextOf (boolean_json b) (boolean b)
boolean_text true = record { is = refl }
boolean_text false = record { is = refl }

texts : (by : EndedBy) → AreTextsOf (after_type by) (text_after by)
texts by = member (codes "side") refl (word_text (side_word by.role) (plain_side by.role)) (last (codes "reset") refl (boolean_text by.reset))

four : (a s r z : List ℕ) → a ++ ((s ++ r) ++ z) ≡ a ++ s ++ r ++ z
four a s r z = simp append_assoc

json_line : (by : EndedBy) → IsJsonLine (value_of by) (ended_by_object by)
json_line by =
    subst (IsJsonLine (value_of by))
    (four (codes "{\"type\":\"ended-by\"") (string_field (codes "side") (side_word by.role)) (field (codes "reset") (boolean by.reset)) (codes "}\n"))
    (typed_line (codes "ended-by") (text_after by) (after_type by) refl (texts by))

plain_boolean : (b : Bool) → HasDistinctNames (boolean_json b)
plain_boolean true = tt
plain_boolean false = tt

pub ended_by_line : (by : EndedBy) → IsObjectLine (ended_by_object by)
ended_by_line by = (
  Member (codes "type") (String (codes "ended-by")) (after_type by),
  json_line by,
  distinct (Member (codes "type") (String (codes "ended-by")) (after_type by)) refl (tt, (tt, (plain_boolean by.reset, tt))),
)

pub one_ended_by : (by other : EndedBy) → ended_by_object by ≡ ended_by_object other → by ≡ other
one_ended_by by other same =
    let values : value_of by ≡ value_of other =
    one_line (value_of by) (value_of other) (ended_by_object other) (subst (IsJsonLine (value_of by)) same (json_line by)) (json_line other) in
    let sides : side_word by.role ≡ side_word other.role = cc in
    let resets : boolean_json by.reset ≡ boolean_json other.reset = cc in
    ap (λ (r : Role). record by { role = r }) (one_role by.role other.role sides)
    ∙ ap (λ (b : Bool). record other { reset = b }) (one_boolean by.reset other.reset resets)
