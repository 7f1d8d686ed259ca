use Rattle.std.proofs.Common.{ℕ, List, ◌++◌, codes, sym, ◌∙◌, subst, rules}
use Rattle.hex.specs.Hex.{encode_lower}
use Rattle.wsn_io.specs.Stops.{IsWrittenOrStops}
use Rattle.wsn_print.specs.ShownParts.{character_of}
use Rattle.wsn_shown_text.specs.CharacterText.{character_text, character_view}
use Rattle.wsn_shown_text.proofs.CharacterPieces.{view_is, view_unseen}
use Rattle.wsn_print.proofs.Pieces.{first_stops, second_stops, three_pieces}
use Rattle.wsn_shown_text.proofs.characters.put_character_view.Goals as goal

pub put_line-requires : goal.put_line-requires
put_line-requires g c = search rules

pub returns-then-bytes-eq0-clause-unfailed : goal.returns-then-bytes-eq0-clause-unfailed
returns-then-bytes-eq0-clause-unfailed g c = search rules

pub put_hex-requires : goal.put_hex-requires
put_hex-requires g c = search rules

pub returns-in_err-put_hex-clause-unfailed : goal.returns-in_err-put_hex-clause-unfailed
returns-in_err-put_hex-clause-unfailed g c = search rules

pub put_line-requires-2 : goal.put_line-requires-2
put_line-requires-2 g c = search rules

pub returns-in_err-put_line-clause-unfailed : goal.returns-in_err-put_line-clause-unfailed
returns-in_err-put_line-clause-unfailed g c = search rules

pub put_character_text-requires : goal.put_character_text-requires
put_character_text-requires g c = search rules

pub returns-clause-unfailed : goal.returns-clause-unfailed
returns-clause-unfailed g c = search rules

pub returns-then-bytes-eq0-clause-text : goal.returns-then-bytes-eq0-clause-text
returns-then-bytes-eq0-clause-text g c = λ all holds.
    subst (λ (t : List ℕ). IsWrittenOrStops c.args.to.now c.put_line.new.to t c.put_line.result)
    (view_unseen c.args.view all (character_of c.args.character.now) (sym c.bytes.ensures.is ∙ c.if-bytes-eq0.true)) c.put_line.ensures

pub returns-in_err-put_hex-clause-text : goal.returns-in_err-put_hex-clause-text
returns-in_err-put_hex-clause-text g c = λ all holds.
    let n = c.args.view in
    let character = character_of c.args.character.now in
    let digits = encode_lower character.bytes in
    let text = character_text n all character in
    let whole = view_is n all character (λ none. c.if-bytes-eq0.false (c.bytes.ensures.is ∙ none)) in
    first_stops c.args.to.now c.put_hex.new.to digits ((codes " ") ++ text) (character_view n all character) c.in_err-put_hex.field-0.0 c.from_residual.result whole c.in_err-put_hex.ensures c.from_residual.ensures.1

pub returns-in_err-put_line-clause-text : goal.returns-in_err-put_line-clause-text
returns-in_err-put_line-clause-text g c = λ all holds.
    let n = c.args.view in
    let character = character_of c.args.character.now in
    let digits = encode_lower character.bytes in
    let text = character_text n all character in
    let whole = view_is n all character (λ none. c.if-bytes-eq0.false (c.bytes.ensures.is ∙ none)) in
    second_stops c.args.to.now c.put_hex.new.to c.put_line-2.new.to digits (codes " ") text (character_view n all character) c.in_err-put_line.field-0.0 c.from_residual-in_err-put_line.result whole c.in_ok-put_hex.ensures c.in_err-put_line.ensures c.from_residual-in_err-put_line.ensures.1

pub returns-clause-text : goal.returns-clause-text
returns-clause-text g c = λ all holds.
    let n = c.args.view in
    let character = character_of c.args.character.now in
    let digits = encode_lower character.bytes in
    let text = character_text n all character in
    let whole = view_is n all character (λ none. c.if-bytes-eq0.false (c.bytes.ensures.is ∙ none)) in
    three_pieces c.args.to.now c.put_hex.new.to c.put_line-2.new.to c.put_character_text.new.to digits (codes " ") text (character_view n all character) c.put_character_text.result whole c.in_ok-put_hex.ensures c.in_ok-put_line.ensures (c.put_character_text.ensures.text all holds)
