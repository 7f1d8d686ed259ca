use Rattle.std.proofs.Common.{◌≡◌, ℕ, ◌≢◌, Bool, nat_lt, if◌then◌else◌, Option, None, Some, List, [], ◌∷◌, ◌++◌, length, replicate, codes, decimal, refl, sym, ap, ◌∙◌, subst, append_assoc, append-nil, rules}
use Rattle.wsn_io.specs.Transfer.{IsWritten, IsPartlyWritten}
use Rattle.wsn_io.specs.declared.stop.Stop.TheVariants as stop
use Rattle.wsn_io.specs.Stops.{IsWrittenOrStops}
use Rattle.wsn_print.proofs.Pieces.{first_stops, second_stops, third_stops, fourth_stops, five_pieces}
use Rattle.wsn_shown_text.specs.PeopleText.{place_text, place_after, people_character}
use Rattle.hex.specs.Hex.{encode_lower}
use Rattle.wsn_print.specs.EscapedText.{comment_text}
use Rattle.wsn_print.specs.ShownParts.{character_of}
use Rattle.wsn_shown_text.proofs.PeopleTexts.{character_is, character_unseen}
use Rattle.wsn_shown_text.proofs.people_views.put_people_character.Goals as goal

pub returns-then-bytes-eq0-clause-text : goal.returns-then-bytes-eq0-clause-text
returns-then-bytes-eq0-clause-text g c = λ all holds.
    subst (λ (t : List ℕ). IsWrittenOrStops c.args.to.now c.put_line.new.to t c.put_line.result)
    (c.bytes-then-bytes-eq0.ensures ∙ c.line_of_unseen.ensures ∙ character_unseen c.args.limit all (character_of c.args.character.now) (sym c.bytes.ensures.is ∙ c.if-bytes-eq0.true)) c.put_line.ensures

pub returns-in_err-put_line-clause-text : goal.returns-in_err-put_line-clause-text
returns-in_err-put_line-clause-text g c = λ all holds.
    let n = c.args.limit in
    let character = character_of c.args.character.now in
    let before = c.text_before-before.result.now in
    let more = nat_lt (length before) character.in_payload in
    let is = c.text_before-before.ensures n all (c.as_slice.ensures.value ∙ c.end_of_text-end.ensures all holds) in
    let some : n ≢ 0 = λ none. c.if-bytes-eq0.false (c.bytes.ensures.is ∙ none) in
    first_stops c.args.to.now c.put_line-2.new.to (codes "bad character ") ((encode_lower character.bytes) ++ ((place_after character.in_payload more) ++ ((comment_text before) ++ (codes "\"")))) (people_character n all character) c.in_err-put_line.field-0.0 c.from_residual.result
    (character_is n all before character some is) (c.in_err-put_line.ensures) c.from_residual.ensures.1

pub returns-in_err-put_hex-clause-text : goal.returns-in_err-put_hex-clause-text
returns-in_err-put_hex-clause-text g c = λ all holds.
    let n = c.args.limit in
    let character = character_of c.args.character.now in
    let before = c.text_before-before.result.now in
    let more = nat_lt (length before) character.in_payload in
    let is = c.text_before-before.ensures n all (c.as_slice.ensures.value ∙ c.end_of_text-end.ensures all holds) in
    let some : n ≢ 0 = λ none. c.if-bytes-eq0.false (c.bytes.ensures.is ∙ none) in
    second_stops c.args.to.now c.put_line-2.new.to c.put_hex.new.to (codes "bad character ") (encode_lower character.bytes) ((place_after character.in_payload more) ++ ((comment_text before) ++ (codes "\""))) (people_character n all character) c.in_err-put_hex.field-0.0 c.from_residual-in_err-put_hex.result
    (character_is n all before character some is) (c.in_ok-put_line.ensures) (c.in_err-put_hex.ensures) c.from_residual-in_err-put_hex.ensures.1

pub returns-in_err-put_line-2-clause-text : goal.returns-in_err-put_line-2-clause-text
returns-in_err-put_line-2-clause-text g c = λ all holds.
    let n = c.args.limit in
    let character = character_of c.args.character.now in
    let before = c.text_before-before.result.now in
    let more = nat_lt (length before) character.in_payload in
    let is = c.text_before-before.ensures n all (c.as_slice.ensures.value ∙ c.end_of_text-end.ensures all holds) in
    let some : n ≢ 0 = λ none. c.if-bytes-eq0.false (c.bytes.ensures.is ∙ none) in
    third_stops c.args.to.now c.put_line-2.new.to c.put_hex.new.to c.put_line-3.new.to (codes "bad character ") (encode_lower character.bytes) (place_after character.in_payload more) ((comment_text before) ++ (codes "\"")) (people_character n all character) c.in_err-put_line-2.field-0.0 c.from_residual-in_err-put_line-2.result
    (character_is n all before character some is) (c.in_ok-put_line.ensures) (c.in_ok-put_hex.ensures) (subst (λ (t : List ℕ). (c.in_err-put_line-2.field-0.0 ≡ stop.Write) × IsPartlyWritten c.put_hex.new.to c.put_line-3.new.to t) (c.bytes-2.ensures ∙ c.line_of_seen.ensures) (c.in_err-put_line-2.ensures)) c.from_residual-in_err-put_line-2.ensures.1

pub returns-in_err-put_comment_text-clause-text : goal.returns-in_err-put_comment_text-clause-text
returns-in_err-put_comment_text-clause-text g c = λ all holds.
    let n = c.args.limit in
    let character = character_of c.args.character.now in
    let before = c.text_before-before.result.now in
    let more = nat_lt (length before) character.in_payload in
    let is = c.text_before-before.ensures n all (c.as_slice.ensures.value ∙ c.end_of_text-end.ensures all holds) in
    let some : n ≢ 0 = λ none. c.if-bytes-eq0.false (c.bytes.ensures.is ∙ none) in
    fourth_stops c.args.to.now c.put_line-2.new.to c.put_hex.new.to c.put_line-3.new.to c.put_comment_text.new.to (codes "bad character ") (encode_lower character.bytes) (place_after character.in_payload more) (comment_text before) (codes "\"") (people_character n all character) c.in_err-put_comment_text.field-0.0 c.from_residual-in_err-put_comment_text.result
    (character_is n all before character some is) (c.in_ok-put_line.ensures) (c.in_ok-put_hex.ensures) (subst (IsWritten c.put_hex.new.to c.put_line-3.new.to) (c.bytes-2.ensures ∙ c.line_of_seen.ensures) (c.in_ok-put_line-2.ensures)) (subst (λ (t : List ℕ). (c.in_err-put_comment_text.field-0.0 ≡ stop.Write) × IsPartlyWritten c.put_line-3.new.to c.put_comment_text.new.to t) (ap comment_text c.as_bytes.ensures.value) (c.in_err-put_comment_text.ensures)) c.from_residual-in_err-put_comment_text.ensures.1

pub returns-clause-text : goal.returns-clause-text
returns-clause-text g c = λ all holds.
    let n = c.args.limit in
    let character = character_of c.args.character.now in
    let before = c.text_before-before.result.now in
    let more = nat_lt (length before) character.in_payload in
    let is = c.text_before-before.ensures n all (c.as_slice.ensures.value ∙ c.end_of_text-end.ensures all holds) in
    let some : n ≢ 0 = λ none. c.if-bytes-eq0.false (c.bytes.ensures.is ∙ none) in
    five_pieces c.args.to.now c.put_line-2.new.to c.put_hex.new.to c.put_line-3.new.to c.put_comment_text.new.to c.put_line-4.new.to (codes "bad character ") (encode_lower character.bytes) (place_after character.in_payload more) (comment_text before) (codes "\"") (people_character n all character) c.put_line-4.result
    (character_is n all before character some is) (c.in_ok-put_line.ensures) (c.in_ok-put_hex.ensures) (subst (IsWritten c.put_hex.new.to c.put_line-3.new.to) (c.bytes-2.ensures ∙ c.line_of_seen.ensures) (c.in_ok-put_line-2.ensures)) (subst (IsWritten c.put_line-3.new.to c.put_comment_text.new.to) (ap comment_text c.as_bytes.ensures.value) (c.in_ok-put_comment_text.ensures)) (c.put_line-4.ensures)
