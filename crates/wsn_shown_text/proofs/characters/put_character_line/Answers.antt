use Rattle.std.proofs.Common.{◌≡◌, ℕ, List, ◌++◌, codes, decimal, ◌∙◌, subst, rules}
use Rattle.wsn_io.specs.Transfer.{IsWritten, IsPartlyWritten}
use Rattle.wsn_io.specs.declared.stop.Stop.TheVariants as stop
use Rattle.wsn_shown_text.specs.ShownText.{role_letter, time_text}
use Rattle.wsn_print.specs.ShownParts.{time_at, position_of, character_of}
use Rattle.wsn_shown_text.specs.CharacterText.{character_view, character_line}
use Rattle.wsn_shown_text.proofs.CharacterPieces.{line_is}
use Rattle.wsn_print.proofs.Pieces.{first_stops, second_stops, third_stops, four_pieces}
use Rattle.wsn_shown_text.proofs.characters.put_character_line.Goals as goal

pub put_side-requires : goal.put_side-requires
put_side-requires g c = search rules

pub bytes-requires : goal.bytes-requires
bytes-requires g c = search rules

pub put_line-requires : goal.put_line-requires
put_line-requires g c = search rules

pub put_character_view-requires : goal.put_character_view-requires
put_character_view-requires g c = search rules

pub put_line-requires-2 : goal.put_line-requires-2
put_line-requires-2 g c = search rules

pub returns-in_err-put_side : goal.returns-in_err-put_side
returns-in_err-put_side g c = λ all holds.
    let n = c.args.view in
    let role = c.args.front.now.role in
    let time = time_at (position_of c.args.front.now.origin) in
    let character = character_of c.args.character.now in
    let front : List ℕ = role_letter role ++ codes " " ++ time_text time in
    let place : List ℕ = codes " " ++ decimal character.offset ++ codes " bad-character " ++ decimal character.in_payload ++ codes " " in
    let view = character_view n all character in
    let whole = line_is front (codes " ") (decimal character.offset) (codes " bad-character ") (decimal character.in_payload) (codes " ") view (codes "\n") in
    first_stops c.args.to.now c.put_side.new.to front (place ++ (view ++ (codes "\n"))) (character_line n role time all character) c.in_err-put_side.field-0.0 c.from_residual.result whole c.in_err-put_side.ensures c.from_residual.ensures.1

pub returns-in_err-put_line : goal.returns-in_err-put_line
returns-in_err-put_line g c = λ all holds.
    let n = c.args.view in
    let role = c.args.front.now.role in
    let time = time_at (position_of c.args.front.now.origin) in
    let character = character_of c.args.character.now in
    let front : List ℕ = role_letter role ++ codes " " ++ time_text time in
    let place : List ℕ = codes " " ++ decimal character.offset ++ codes " bad-character " ++ decimal character.in_payload ++ codes " " in
    let view = character_view n all character in
    let whole = line_is front (codes " ") (decimal character.offset) (codes " bad-character ") (decimal character.in_payload) (codes " ") view (codes "\n") in
    second_stops c.args.to.now c.put_side.new.to c.put_line.new.to front place (view ++ (codes "\n")) (character_line n role time all character) c.in_err-put_line.field-0.0 c.from_residual-in_err-put_line.result whole c.in_ok-put_side.ensures (subst (λ (t : List ℕ). (c.in_err-put_line.field-0.0 ≡ stop.Write) × IsPartlyWritten c.put_side.new.to c.put_line.new.to t) (c.bytes.ensures ∙ c.line_of_place.ensures) c.in_err-put_line.ensures) c.from_residual-in_err-put_line.ensures.1

pub returns-in_err-put_character_view : goal.returns-in_err-put_character_view
returns-in_err-put_character_view g c = λ all holds.
    let n = c.args.view in
    let role = c.args.front.now.role in
    let time = time_at (position_of c.args.front.now.origin) in
    let character = character_of c.args.character.now in
    let front : List ℕ = role_letter role ++ codes " " ++ time_text time in
    let place : List ℕ = codes " " ++ decimal character.offset ++ codes " bad-character " ++ decimal character.in_payload ++ codes " " in
    let view = character_view n all character in
    let whole = line_is front (codes " ") (decimal character.offset) (codes " bad-character ") (decimal character.in_payload) (codes " ") view (codes "\n") in
    third_stops c.args.to.now c.put_side.new.to c.put_line.new.to c.put_character_view.new.to front place view (codes "\n") (character_line n role time all character) c.in_err-put_character_view.field-0.0 c.from_residual-in_err-put_character_view.result whole c.in_ok-put_side.ensures (subst (IsWritten c.put_side.new.to c.put_line.new.to) (c.bytes.ensures ∙ c.line_of_place.ensures) c.in_ok-put_line.ensures) (c.in_err-put_character_view.ensures.text all holds) c.from_residual-in_err-put_character_view.ensures.1

pub returns : goal.returns
returns g c = λ all holds.
    let n = c.args.view in
    let role = c.args.front.now.role in
    let time = time_at (position_of c.args.front.now.origin) in
    let character = character_of c.args.character.now in
    let front : List ℕ = role_letter role ++ codes " " ++ time_text time in
    let place : List ℕ = codes " " ++ decimal character.offset ++ codes " bad-character " ++ decimal character.in_payload ++ codes " " in
    let view = character_view n all character in
    let whole = line_is front (codes " ") (decimal character.offset) (codes " bad-character ") (decimal character.in_payload) (codes " ") view (codes "\n") in
    four_pieces c.args.to.now c.put_side.new.to c.put_line.new.to c.put_character_view.new.to c.put_line-2.new.to front place view (codes "\n") (character_line n role time all character) c.put_line-2.result whole c.in_ok-put_side.ensures (subst (IsWritten c.put_side.new.to c.put_line.new.to) (c.bytes.ensures ∙ c.line_of_place.ensures) c.in_ok-put_line.ensures) (c.in_ok-put_character_view.ensures.text all holds) c.put_line-2.ensures
