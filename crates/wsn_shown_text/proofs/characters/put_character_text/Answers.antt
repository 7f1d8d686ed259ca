use Rattle.std.proofs.Common.{ℕ, nat_lt, if◌then◌else◌, List, [], ◌++◌, length, codes, ◌∙◌, rules}
use Rattle.std.specs.Prelude.{flat_map}
use Rattle.std.specs.Str.{chars}
use Rattle.wsn_print.specs.EscapedText.{quoted_character}
use Rattle.wsn_print.specs.ShownParts.{character_of}
use Rattle.wsn_shown_text.specs.CharacterText.{byte_escape, character_text}
use Rattle.wsn_shown_text.proofs.CharacterPieces.{text_is}
use Rattle.wsn_print.proofs.Pieces.{first_stops, second_stops, third_stops, fourth_stops, five_pieces}
use Rattle.wsn_shown_text.proofs.characters.put_character_text.Goals as goal

pub as_slice-requires : goal.as_slice-requires
as_slice-requires g c = search rules

pub put_if-requires : goal.put_if-requires
put_if-requires g c = search rules

pub returns-in_err-put_if-clause-unfailed : goal.returns-in_err-put_if-clause-unfailed
returns-in_err-put_if-clause-unfailed g c = search rules

pub put_line-requires : goal.put_line-requires
put_line-requires g c = search rules

pub returns-in_err-put_line-clause-unfailed : goal.returns-in_err-put_line-clause-unfailed
returns-in_err-put_line-clause-unfailed g c = search rules

pub put_quoted_characters-requires : goal.put_quoted_characters-requires
put_quoted_characters-requires g c = search rules

pub returns-in_err-put_quoted_characters-clause-unfailed : goal.returns-in_err-put_quoted_characters-clause-unfailed
returns-in_err-put_quoted_characters-clause-unfailed g c = search rules

pub put_byte_escapes-requires : goal.put_byte_escapes-requires
put_byte_escapes-requires g c = search rules

pub returns-in_err-put_byte_escapes-clause-unfailed : goal.returns-in_err-put_byte_escapes-clause-unfailed
returns-in_err-put_byte_escapes-clause-unfailed g c = search rules

pub put_line-requires-2 : goal.put_line-requires-2
put_line-requires-2 g c = search rules

pub returns-clause-unfailed : goal.returns-clause-unfailed
returns-clause-unfailed g c = search rules

pub returns-in_err-put_if-clause-text : goal.returns-in_err-put_if-clause-text
returns-in_err-put_if-clause-text g c = λ all holds.
    let n = c.args.view in
    let character = character_of c.args.character.now in
    let before = c.text_before-before.result.now in
    let dots : List ℕ = if nat_lt (length before) character.in_payload then codes ".." else [] in
    let text : List ℕ = flat_map quoted_character (chars before) in
    let escapes : List ℕ = flat_map byte_escape character.bytes in
    let whole = text_is n all before character (c.text_before-before.ensures n all (c.as_slice.ensures.value ∙ c.end_of_text-end.ensures all holds)) in
    first_stops c.args.to.now c.put_if.new.to dots ((codes "\"") ++ (text ++ (escapes ++ (codes "\"")))) (character_text n all character) c.in_err-put_if.field-0.0 c.from_residual.result whole c.in_err-put_if.ensures c.from_residual.ensures.1

pub returns-in_err-put_line-clause-text : goal.returns-in_err-put_line-clause-text
returns-in_err-put_line-clause-text g c = λ all holds.
    let n = c.args.view in
    let character = character_of c.args.character.now in
    let before = c.text_before-before.result.now in
    let dots : List ℕ = if nat_lt (length before) character.in_payload then codes ".." else [] in
    let text : List ℕ = flat_map quoted_character (chars before) in
    let escapes : List ℕ = flat_map byte_escape character.bytes in
    let whole = text_is n all before character (c.text_before-before.ensures n all (c.as_slice.ensures.value ∙ c.end_of_text-end.ensures all holds)) in
    second_stops c.args.to.now c.put_if.new.to c.put_line.new.to dots (codes "\"") (text ++ (escapes ++ (codes "\""))) (character_text n all character) c.in_err-put_line.field-0.0 c.from_residual-in_err-put_line.result whole c.in_ok-put_if.ensures c.in_err-put_line.ensures c.from_residual-in_err-put_line.ensures.1

pub returns-in_err-put_quoted_characters-clause-text : goal.returns-in_err-put_quoted_characters-clause-text
returns-in_err-put_quoted_characters-clause-text g c = λ all holds.
    let n = c.args.view in
    let character = character_of c.args.character.now in
    let before = c.text_before-before.result.now in
    let dots : List ℕ = if nat_lt (length before) character.in_payload then codes ".." else [] in
    let text : List ℕ = flat_map quoted_character (chars before) in
    let escapes : List ℕ = flat_map byte_escape character.bytes in
    let whole = text_is n all before character (c.text_before-before.ensures n all (c.as_slice.ensures.value ∙ c.end_of_text-end.ensures all holds)) in
    third_stops c.args.to.now c.put_if.new.to c.put_line.new.to c.put_quoted_characters.new.to dots (codes "\"") text (escapes ++ (codes "\"")) (character_text n all character) c.in_err-put_quoted_characters.field-0.0 c.from_residual-in_err-put_quoted_characters.result whole c.in_ok-put_if.ensures c.in_ok-put_line.ensures c.in_err-put_quoted_characters.ensures c.from_residual-in_err-put_quoted_characters.ensures.1

pub returns-in_err-put_byte_escapes-clause-text : goal.returns-in_err-put_byte_escapes-clause-text
returns-in_err-put_byte_escapes-clause-text g c = λ all holds.
    let n = c.args.view in
    let character = character_of c.args.character.now in
    let before = c.text_before-before.result.now in
    let dots : List ℕ = if nat_lt (length before) character.in_payload then codes ".." else [] in
    let text : List ℕ = flat_map quoted_character (chars before) in
    let escapes : List ℕ = flat_map byte_escape character.bytes in
    let whole = text_is n all before character (c.text_before-before.ensures n all (c.as_slice.ensures.value ∙ c.end_of_text-end.ensures all holds)) in
    fourth_stops c.args.to.now c.put_if.new.to c.put_line.new.to c.put_quoted_characters.new.to c.put_byte_escapes.new.to dots (codes "\"") text escapes (codes "\"") (character_text n all character) c.in_err-put_byte_escapes.field-0.0 c.from_residual-in_err-put_byte_escapes.result whole c.in_ok-put_if.ensures c.in_ok-put_line.ensures c.in_ok-put_quoted_characters.ensures c.in_err-put_byte_escapes.ensures c.from_residual-in_err-put_byte_escapes.ensures.1

pub returns-clause-text : goal.returns-clause-text
returns-clause-text g c = λ all holds.
    let n = c.args.view in
    let character = character_of c.args.character.now in
    let before = c.text_before-before.result.now in
    let dots : List ℕ = if nat_lt (length before) character.in_payload then codes ".." else [] in
    let text : List ℕ = flat_map quoted_character (chars before) in
    let escapes : List ℕ = flat_map byte_escape character.bytes in
    let whole = text_is n all before character (c.text_before-before.ensures n all (c.as_slice.ensures.value ∙ c.end_of_text-end.ensures all holds)) in
    five_pieces c.args.to.now c.put_if.new.to c.put_line.new.to c.put_quoted_characters.new.to c.put_byte_escapes.new.to c.put_line-2.new.to dots (codes "\"") text escapes (codes "\"") (character_text n all character) c.put_line-2.result whole c.in_ok-put_if.ensures c.in_ok-put_line.ensures c.in_ok-put_quoted_characters.ensures c.in_ok-put_byte_escapes.ensures c.put_line-2.ensures
