use Rattle.std.proofs.Common.{ℕ, Bool, subst, ◌==◌, ◌||◌, nat_lt, if◌then◌else◌, List, [], ◌++◌, length, codes, ◌∙◌, rules}
use Rattle.wsn_io.specs.Stops.{IsWrittenOrStops}
use Rattle.wsn_print.specs.Json.{field}
use Rattle.wsn_shown_text.specs.ShownObjects.{truncated_field}
use Rattle.wsn_print.specs.EscapedText.{quoted}
use Rattle.wsn_print.specs.ShownParts.{character_of}
use Rattle.wsn_shown_text.specs.CharacterText.{text_before, truncated_text}
use Rattle.wsn_shown_text.proofs.CharacterPieces.{before_is, before_is_utf8}
use Rattle.wsn_print.proofs.Pieces.{first_stops, second_stops, three_pieces}
use Rattle.wsn_shown_text.proofs.characters.put_before_field.Goals as goal

pub as_slice-requires : goal.as_slice-requires
as_slice-requires g c = search rules

pub put_line-requires : goal.put_line-requires
put_line-requires g c = search rules

pub returns-in_err-put_line-clause-unfailed : goal.returns-in_err-put_line-clause-unfailed
returns-in_err-put_line-clause-unfailed g c = search rules

pub put_quoted-requires : goal.put_quoted-requires
put_quoted-requires g c = search rules

pub returns-in_err-put_quoted-clause-unfailed : goal.returns-in_err-put_quoted-clause-unfailed
returns-in_err-put_quoted-clause-unfailed g c = search rules

pub put_truncated-requires : goal.put_truncated-requires
put_truncated-requires g c = search rules

pub returns-clause-unfailed : goal.returns-clause-unfailed
returns-clause-unfailed g c = search rules

pub returns-in_err-put_line-clause-text : goal.returns-in_err-put_line-clause-text
returns-in_err-put_line-clause-text g c = λ all holds.
    let n = c.args.view in
    let character = character_of c.args.character.now in
    let before = c.text_before-before.result.now in
    let shown = before in
    let is = c.text_before-before.ensures n all (c.as_slice.ensures.value ∙ c.end_of_text-end.ensures all holds) in
    let truncated : List ℕ = if n == 0 || nat_lt (length before) character.in_payload then codes ",\"truncated\":true" else [] in
    let text : List ℕ = field (codes "before") (quoted (text_before n all character)) ++ truncated_text n all character in
    let whole = before_is n all shown before character is is in
    first_stops c.args.to.now c.put_line.new.to (codes ",\"before\":") (quoted shown ++ truncated) text c.in_err-put_line.field-0.0 c.from_residual.result whole c.in_err-put_line.ensures c.from_residual.ensures.1

pub returns-in_err-put_quoted-clause-text : goal.returns-in_err-put_quoted-clause-text
returns-in_err-put_quoted-clause-text g c = λ all holds.
    let n = c.args.view in
    let character = character_of c.args.character.now in
    let before = c.text_before-before.result.now in
    let shown = c.as_bytes.result.now in
    let is = c.text_before-before.ensures n all (c.as_slice.ensures.value ∙ c.end_of_text-end.ensures all holds) in
    let truncated : List ℕ = if n == 0 || nat_lt (length before) character.in_payload then codes ",\"truncated\":true" else [] in
    let text : List ℕ = field (codes "before") (quoted (text_before n all character)) ++ truncated_text n all character in
    let whole = before_is n all shown before character (c.as_bytes.ensures.value ∙ is) is in
    second_stops c.args.to.now c.put_line.new.to c.put_quoted.new.to (codes ",\"before\":") (quoted shown) truncated text c.in_err-put_quoted.field-0.0 c.from_residual-in_err-put_quoted.result whole c.in_ok-put_line.ensures (c.in_err-put_quoted.ensures.text (before_is_utf8 n all shown character (c.as_bytes.ensures.value ∙ is))) c.from_residual-in_err-put_quoted.ensures.1

pub returns-clause-text : goal.returns-clause-text
returns-clause-text g c = λ all holds.
    let n = c.args.view in
    let character = character_of c.args.character.now in
    let before = c.text_before-before.result.now in
    let shown = c.as_bytes.result.now in
    let is = c.text_before-before.ensures n all (c.as_slice.ensures.value ∙ c.end_of_text-end.ensures all holds) in
    let truncated : List ℕ = if n == 0 || nat_lt (length before) character.in_payload then codes ",\"truncated\":true" else [] in
    let text : List ℕ = field (codes "before") (quoted (text_before n all character)) ++ truncated_text n all character in
    let whole = before_is n all shown before character (c.as_bytes.ensures.value ∙ is) is in
    three_pieces c.args.to.now c.put_line.new.to c.put_quoted.new.to c.put_truncated.new.to (codes ",\"before\":") (quoted shown) truncated text c.put_truncated.result whole c.in_ok-put_line.ensures (c.in_ok-put_quoted.ensures.text (before_is_utf8 n all shown character (c.as_bytes.ensures.value ∙ is)))
    (subst (λ (more : Bool). IsWrittenOrStops c.put_quoted.new.to c.put_truncated.new.to (truncated_field more) c.put_truncated.result) c.hides_some.ensures c.put_truncated.ensures)
