use Rattle.std.proofs.Common.{◌≡◌, ℕ, List, ◌++◌, codes, decimal, ap, ◌∙◌, subst, rules}
use Rattle.wsn_io.specs.Transfer.{IsWritten, IsPartlyWritten}
use Rattle.wsn_io.specs.declared.stop.Stop.TheVariants as stop
use Rattle.wsn_print.specs.Json.{field, number_field}
use Rattle.wsn_print.specs.EscapedText.{quoted}
use Rattle.wsn_shown_text.specs.ShownObjects.{hex_field}
use Rattle.wsn_print.specs.ShownParts.{character_of}
use Rattle.wsn_shown_text.specs.CharacterText.{text_before, shown_bytes, truncated_text, character_object}
use Rattle.wsn_shown_text.proofs.CharacterPieces.{object_is}
use Rattle.wsn_print.proofs.Pieces.{first_stops, second_stops, third_stops, four_pieces}
use Rattle.wsn_shown_text.proofs.characters.put_character_field.Goals as goal

pub bytes-requires : goal.bytes-requires
bytes-requires g c = search rules

pub put_line-requires : goal.put_line-requires
put_line-requires g c = search rules

pub returns-in_err-put_line-clause-unfailed : goal.returns-in_err-put_line-clause-unfailed
returns-in_err-put_line-clause-unfailed g c = search rules

pub put_hex_field-requires : goal.put_hex_field-requires
put_hex_field-requires g c = search rules

pub returns-in_err-put_hex_field-clause-unfailed : goal.returns-in_err-put_hex_field-clause-unfailed
returns-in_err-put_hex_field-clause-unfailed g c = search rules

pub put_before_field-requires : goal.put_before_field-requires
put_before_field-requires g c = search rules

pub returns-in_err-put_before_field-clause-unfailed : goal.returns-in_err-put_before_field-clause-unfailed
returns-in_err-put_before_field-clause-unfailed g c = search rules

pub put_line-requires-2 : goal.put_line-requires-2
put_line-requires-2 g c = search rules

pub returns-clause-unfailed : goal.returns-clause-unfailed
returns-clause-unfailed g c = search rules

pub returns-in_err-put_line-clause-text : goal.returns-in_err-put_line-clause-text
returns-in_err-put_line-clause-text g c = λ all holds.
    let n = c.args.view in
    let character = character_of c.args.character.now in
    let places : List ℕ = codes ",\"character\":{\"offset\":" ++ decimal character.offset ++ number_field (codes "in_payload") character.in_payload in
    let hex = hex_field (shown_bytes n character) in
    let before : List ℕ = field (codes "before") (quoted (text_before n all character)) ++ truncated_text n all character in
    let object = field (codes "character") (character_object n all character) in
    let whole = object_is n all character in
    first_stops c.args.to.now c.put_line.new.to places (hex ++ (before ++ (codes "}"))) object c.in_err-put_line.field-0.0 c.from_residual.result whole (subst (λ (t : List ℕ). (c.in_err-put_line.field-0.0 ≡ stop.Write) × IsPartlyWritten c.args.to.now c.put_line.new.to t) (c.bytes.ensures ∙ c.line_of_places.ensures) c.in_err-put_line.ensures) c.from_residual.ensures.1

pub returns-in_err-put_hex_field-clause-text : goal.returns-in_err-put_hex_field-clause-text
returns-in_err-put_hex_field-clause-text g c = λ all holds.
    let n = c.args.view in
    let character = character_of c.args.character.now in
    let places : List ℕ = codes ",\"character\":{\"offset\":" ++ decimal character.offset ++ number_field (codes "in_payload") character.in_payload in
    let hex = hex_field (shown_bytes n character) in
    let before : List ℕ = field (codes "before") (quoted (text_before n all character)) ++ truncated_text n all character in
    let object = field (codes "character") (character_object n all character) in
    let whole = object_is n all character in
    second_stops c.args.to.now c.put_line.new.to c.put_hex_field.new.to places hex (before ++ (codes "}")) object c.in_err-put_hex_field.field-0.0 c.from_residual-in_err-put_hex_field.result whole (subst (IsWritten c.args.to.now c.put_line.new.to) (c.bytes.ensures ∙ c.line_of_places.ensures) c.in_ok-put_line.ensures) (subst (λ (t : List ℕ). (c.in_err-put_hex_field.field-0.0 ≡ stop.Write) × IsPartlyWritten c.put_line.new.to c.put_hex_field.new.to t) (ap hex_field c.shown_bytes.ensures) c.in_err-put_hex_field.ensures) c.from_residual-in_err-put_hex_field.ensures.1

pub returns-in_err-put_before_field-clause-text : goal.returns-in_err-put_before_field-clause-text
returns-in_err-put_before_field-clause-text g c = λ all holds.
    let n = c.args.view in
    let character = character_of c.args.character.now in
    let places : List ℕ = codes ",\"character\":{\"offset\":" ++ decimal character.offset ++ number_field (codes "in_payload") character.in_payload in
    let hex = hex_field (shown_bytes n character) in
    let before : List ℕ = field (codes "before") (quoted (text_before n all character)) ++ truncated_text n all character in
    let object = field (codes "character") (character_object n all character) in
    let whole = object_is n all character in
    third_stops c.args.to.now c.put_line.new.to c.put_hex_field.new.to c.put_before_field.new.to places hex before (codes "}") object c.in_err-put_before_field.field-0.0 c.from_residual-in_err-put_before_field.result whole (subst (IsWritten c.args.to.now c.put_line.new.to) (c.bytes.ensures ∙ c.line_of_places.ensures) c.in_ok-put_line.ensures) (subst (IsWritten c.put_line.new.to c.put_hex_field.new.to) (ap hex_field c.shown_bytes.ensures) c.in_ok-put_hex_field.ensures) (c.in_err-put_before_field.ensures.text all holds) c.from_residual-in_err-put_before_field.ensures.1

pub returns-clause-text : goal.returns-clause-text
returns-clause-text g c = λ all holds.
    let n = c.args.view in
    let character = character_of c.args.character.now in
    let places : List ℕ = codes ",\"character\":{\"offset\":" ++ decimal character.offset ++ number_field (codes "in_payload") character.in_payload in
    let hex = hex_field (shown_bytes n character) in
    let before : List ℕ = field (codes "before") (quoted (text_before n all character)) ++ truncated_text n all character in
    let object = field (codes "character") (character_object n all character) in
    let whole = object_is n all character in
    four_pieces c.args.to.now c.put_line.new.to c.put_hex_field.new.to c.put_before_field.new.to c.put_line-2.new.to places hex before (codes "}") object c.put_line-2.result whole (subst (IsWritten c.args.to.now c.put_line.new.to) (c.bytes.ensures ∙ c.line_of_places.ensures) c.in_ok-put_line.ensures) (subst (IsWritten c.put_line.new.to c.put_hex_field.new.to) (ap hex_field c.shown_bytes.ensures) c.in_ok-put_hex_field.ensures) (c.in_ok-put_before_field.ensures.text all holds) c.put_line-2.ensures
