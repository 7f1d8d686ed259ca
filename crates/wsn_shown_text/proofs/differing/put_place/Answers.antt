use Rattle.std.proofs.Common.{◌≡◌, ℕ, ◌≤◌, List, ◌++◌, decimal, length, sym, ap, ◌∙◌, subst}
use Rattle.wsn_io.specs.Transfer.{IsWritten, IsPartlyWritten}
use Rattle.wsn_io.specs.declared.stop.Stop.TheVariants as stop
use Rattle.wsn_shown_text.proofs.DifferingParts.{place_is, key_short}
use Rattle.wsn_print.proofs.Pieces.{first_stops, second_stops, third_stops, four_pieces}
use Rattle.wsn_shown_text.proofs.differing.put_place.Goals as goal

pub line_of_number-requires : goal.line_of_number-requires
line_of_number-requires g c = subst (λ (key : List ℕ). length key ≤ 28) (sym c.piece_of-key.ensures) (key_short c.args.shape)

pub returns-in_err-put_line-clause-text : goal.returns-in_err-put_line-clause-text
returns-in_err-put_line-clause-text g c = λ event other is also.
    let place = c.args.differing.now.place in
    first_stops c.args.to.now c.put_line.new.to _ _ _ _ _ (place_is c.args.shape c.args.view place event other)
    (subst (λ (t : List ℕ). (c.in_err-put_line.field-0.0 ≡ stop.Write) × IsPartlyWritten c.args.to.now c.put_line.new.to t) (c.bytes.ensures ∙ c.line_of_number.ensures ∙ ap (λ (key : List ℕ). key ++ decimal place) c.piece_of-key.ensures) c.in_err-put_line.ensures)
    c.from_residual.ensures.1

pub returns-in_err-put_part-clause-text : goal.returns-in_err-put_part-clause-text
returns-in_err-put_part-clause-text g c = λ event other is also.
    let place = c.args.differing.now.place in
    second_stops c.args.to.now c.put_line.new.to c.put_part.new.to _ _ _ _ _ _ (place_is c.args.shape c.args.view place event other)
    (subst (IsWritten c.args.to.now c.put_line.new.to) (c.bytes.ensures ∙ c.line_of_number.ensures ∙ ap (λ (key : List ℕ). key ++ decimal place) c.piece_of-key.ensures) c.in_ok-put_line.ensures)
    (c.in_err-put_part.ensures.text place event is) c.from_residual-in_err-put_part.ensures.1

pub returns-in_err-put_part-2-clause-text : goal.returns-in_err-put_part-2-clause-text
returns-in_err-put_part-2-clause-text g c = λ event other is also.
    let place = c.args.differing.now.place in
    third_stops c.args.to.now c.put_line.new.to c.put_part.new.to c.put_part-2.new.to _ _ _ _ _ _ _ (place_is c.args.shape c.args.view place event other)
    (subst (IsWritten c.args.to.now c.put_line.new.to) (c.bytes.ensures ∙ c.line_of_number.ensures ∙ ap (λ (key : List ℕ). key ++ decimal place) c.piece_of-key.ensures) c.in_ok-put_line.ensures)
    (c.in_ok-put_part.ensures.text place event is) (c.in_err-put_part-2.ensures.text place other also) c.from_residual-in_err-put_part-2.ensures.1

pub returns-clause-text : goal.returns-clause-text
returns-clause-text g c = λ event other is also.
    let place = c.args.differing.now.place in
    four_pieces c.args.to.now c.put_line.new.to c.put_part.new.to c.put_part-2.new.to c.put_piece.new.to _ _ _ _ _ _ (place_is c.args.shape c.args.view place event other)
    (subst (IsWritten c.args.to.now c.put_line.new.to) (c.bytes.ensures ∙ c.line_of_number.ensures ∙ ap (λ (key : List ℕ). key ++ decimal place) c.piece_of-key.ensures) c.in_ok-put_line.ensures)
    (c.in_ok-put_part.ensures.text place event is) (c.in_ok-put_part-2.ensures.text place other also) c.put_piece.ensures.text
