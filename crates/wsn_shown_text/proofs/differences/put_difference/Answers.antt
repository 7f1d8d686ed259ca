use Rattle.std.proofs.Common.{◌≡◌, List, ℕ, ◌++◌, subst}
use Rattle.wsn_io.specs.Transfer.{IsWritten, IsPartlyWritten}
use Rattle.wsn_io.specs.declared.stop.Stop.TheVariants as stop
use Rattle.wsn_shown_text.specs.DifferenceText.{compared_event_in}
use Rattle.wsn_print.proofs.Pieces.{first_stops, second_stops, third_stops, fourth_stops, five_pieces}
use Rattle.wsn_shown_text.proofs.PlacedItems.{difference_is}
use Rattle.wsn_shown_text.proofs.differences.put_difference.Goals as goal

pub returns-in_err-put_answer : goal.returns-in_err-put_answer
returns-in_err-put_answer g c = λ one other shows also differs.
    first_stops c.args.to.now c.put_answer.new.to _ _ _ _ _ (difference_is c.args.shape c.args.view c.args.role c.args.difference.now.index one other)
    c.in_err-put_answer.ensures.text c.from_residual.ensures.1

pub returns-in_err-put_event : goal.returns-in_err-put_event
returns-in_err-put_event g c = λ one other shows also differs.
    let event = compared_event_in c.args.shape c.args.view c.args.role one in
    second_stops c.args.to.now c.put_answer.new.to c.put_event.new.to _ _ _ _ _ _ (difference_is c.args.shape c.args.view c.args.role c.args.difference.now.index one other)
    c.in_ok-put_answer.ensures.text
    (subst (λ (key : List ℕ). (c.in_err-put_event.field-0.0 ≡ stop.Write) × IsPartlyWritten c.put_answer.new.to c.put_event.new.to (key ++ event)) c.piece_of-first.ensures (c.in_err-put_event.ensures.text one shows)) c.from_residual-in_err-put_event.ensures.1

pub returns-in_err-put_event-2 : goal.returns-in_err-put_event-2
returns-in_err-put_event-2 g c = λ one other shows also differs.
    let event = compared_event_in c.args.shape c.args.view c.args.role one in
    let event2 = compared_event_in c.args.shape c.args.view c.args.role other in
    third_stops c.args.to.now c.put_answer.new.to c.put_event.new.to c.put_event-2.new.to _ _ _ _ _ _ _ (difference_is c.args.shape c.args.view c.args.role c.args.difference.now.index one other)
    c.in_ok-put_answer.ensures.text (subst (λ (key : List ℕ). IsWritten c.put_answer.new.to c.put_event.new.to (key ++ event)) c.piece_of-first.ensures (c.in_ok-put_event.ensures.text one shows))
    (subst (λ (key : List ℕ). (c.in_err-put_event-2.field-0.0 ≡ stop.Write) × IsPartlyWritten c.put_event.new.to c.put_event-2.new.to (key ++ event2)) c.piece_of-second.ensures (c.in_err-put_event-2.ensures.text other also)) c.from_residual-in_err-put_event-2.ensures.1

pub returns-in_err-put_differing : goal.returns-in_err-put_differing
returns-in_err-put_differing g c = λ one other shows also differs.
    let event = compared_event_in c.args.shape c.args.view c.args.role one in
    let event2 = compared_event_in c.args.shape c.args.view c.args.role other in
    fourth_stops c.args.to.now c.put_answer.new.to c.put_event.new.to c.put_event-2.new.to c.put_differing.new.to _ _ _ _ _ _ _ _ (difference_is c.args.shape c.args.view c.args.role c.args.difference.now.index one other)
    c.in_ok-put_answer.ensures.text (subst (λ (key : List ℕ). IsWritten c.put_answer.new.to c.put_event.new.to (key ++ event)) c.piece_of-first.ensures (c.in_ok-put_event.ensures.text one shows))
    (subst (λ (key : List ℕ). IsWritten c.put_event.new.to c.put_event-2.new.to (key ++ event2)) c.piece_of-second.ensures (c.in_ok-put_event-2.ensures.text other also))
    (c.in_err-put_differing.ensures.text one other differs) c.from_residual-in_err-put_differing.ensures.1

pub returns : goal.returns
returns g c = λ one other shows also differs.
    let event = compared_event_in c.args.shape c.args.view c.args.role one in
    let event2 = compared_event_in c.args.shape c.args.view c.args.role other in
    five_pieces c.args.to.now c.put_answer.new.to c.put_event.new.to c.put_event-2.new.to c.put_differing.new.to c.put_piece.new.to _ _ _ _ _ _ _ (difference_is c.args.shape c.args.view c.args.role c.args.difference.now.index one other)
    c.in_ok-put_answer.ensures.text (subst (λ (key : List ℕ). IsWritten c.put_answer.new.to c.put_event.new.to (key ++ event)) c.piece_of-first.ensures (c.in_ok-put_event.ensures.text one shows))
    (subst (λ (key : List ℕ). IsWritten c.put_event.new.to c.put_event-2.new.to (key ++ event2)) c.piece_of-second.ensures (c.in_ok-put_event-2.ensures.text other also))
    (c.in_ok-put_differing.ensures.text one other differs) c.put_piece.ensures.text
