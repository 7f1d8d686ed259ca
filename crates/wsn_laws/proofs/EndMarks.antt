-- An end mark's object is JSON with distinct names, and determines the end mark.
use Rattle.std.proofs.Common.{◌≡◌, ℕ, List, [], ◌++◌, codes, refl, subst, append_assoc, append-nil}
use Rattle.wsn_wire.specs.declared.endpoint.Role.{Role}
use Rattle.wsn_print.specs.Json.{string_field, number_field}
use Rattle.wsn_print.specs.ShownParts.{EntryPosition}
use Rattle.wsn_shown_text.specs.ShownObjects.{line_field, side_word, time_key, time_value, end_object}
use Rattle.wsn_laws.specs.JsonText.{Value, String, Object, End, Member, IsJsonLine, IsObjectLine}
use Rattle.wsn_laws.specs.Answers.{IsInU64}
use Rattle.wsn_laws.specs.ShownItems.{IsPositionInRange}
use Rattle.wsn_laws.proofs.Fields.{number, one_number, one_line}
use Rattle.wsn_laws.proofs.Texts.{AreTextsOf, last, member, number_text, word_text, typed_line}
use Rattle.wsn_laws.proofs.ShownJson.{placed_json, time_json, time_texts, line_texts, plain_side}
use Rattle.wsn_laws.proofs.ShownReader.{one_place}
use Rattle.wsn_laws.proofs.ShownNames.{placed_distinct}

abbrev end_value : Role → EntryPosition → ℕ → Value
end_value role position sent = Object (Member (codes "type") (String (codes "end")) (placed_json role position sent End))

abbrev text_after : Role → EntryPosition → ℕ → List ℕ
text_after role position sent =
    line_field position ++ (string_field (codes "side") (side_word role) ++ ((time_key position ++ time_value position) ++ number_field (codes "offset") sent))

end_texts : (role : Role) (position : EntryPosition) (sent : ℕ) → IsPositionInRange position → IsInU64 sent → AreTextsOf (placed_json role position sent End) (text_after role position sent)
end_texts role position sent place fits =
    let offset = last (codes "offset") refl (number_text sent fits) in
    let time = time_texts position (Member (codes "offset") (number sent) End) (number_field (codes "offset") sent) place offset in
    line_texts position (Member (codes "side") (String (side_word role)) (time_json position (Member (codes "offset") (number sent) End)))
    (string_field (codes "side") (side_word role) ++ ((time_key position ++ time_value position) ++ number_field (codes "offset") sent)) place
    (member (codes "side") refl (word_text (side_word role) (plain_side role)) time)

nine : (a k q l s t v o z : List ℕ) → a ++ (k ++ (q ++ ((l ++ (s ++ ((t ++ v) ++ o))) ++ z))) ≡ (a ++ k ++ q ++ l ++ s ++ t ++ v) ++ o ++ [] ++ z
nine a k q l s t v o z = simp (append_assoc, append-nil)

end_json_line : (role : Role) (position : EntryPosition) (sent : ℕ) → IsPositionInRange position → IsInU64 sent → IsJsonLine (end_value role position sent) (end_object role position sent)
end_json_line role position sent place fits =
    subst (IsJsonLine (end_value role position sent))
    (nine (codes "{\"type\":\"") (codes "end") (codes "\"") (line_field position) (string_field (codes "side") (side_word role)) (time_key position) (time_value position) (number_field (codes "offset") sent) (codes "}\n"))
    (typed_line (codes "end") (text_after role position sent) (placed_json role position sent End) refl (end_texts role position sent place fits))

pub end_line : (role : Role) (position : EntryPosition) (sent : ℕ) → IsPositionInRange position → IsInU64 sent → IsObjectLine (end_object role position sent)
end_line role position sent place fits = (
  Member (codes "type") (String (codes "end")) (placed_json role position sent End),
  end_json_line role position sent place fits,
  placed_distinct role position sent (codes "end") End (record { names = tt; are_distinct = tt }),
)

pub one_end : (role other : Role) (position other_position : EntryPosition) (sent another : ℕ) → IsPositionInRange position → IsPositionInRange other_position → IsInU64 sent → IsInU64 another
    → end_object role position sent ≡ end_object other other_position another → (role ≡ other) × (position ≡ other_position) × (sent ≡ another)
one_end role other position other_position sent another place place_too fits also same =
    let values : end_value role position sent ≡ end_value other other_position another =
    one_line (end_value role position sent) (end_value other other_position another) (end_object other other_position another)
    (subst (IsJsonLine (end_value role position sent)) same (end_json_line role position sent place fits))
    (end_json_line other other_position another place_too also) in
    let members : placed_json role position sent End ≡ placed_json other other_position another End = cc in
    let placed = one_place role other position other_position sent another End End place place_too members in
    (placed.0, placed.1, one_number sent another fits also placed.2)
