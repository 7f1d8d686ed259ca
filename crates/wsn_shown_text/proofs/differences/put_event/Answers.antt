use Rattle.std.proofs.Common.{◌≡◌, List, ℕ, Option, ◌++◌, ap, subst, refl}
use Rattle.wsn_io.specs.Stops.{IsWrittenOrStops}
use Rattle.wsn_io.specs.Transfer.{IsWritten, IsPartlyWritten}
use Rattle.wsn_io.specs.declared.stop.Stop.TheVariants as stop
use Rattle.wsn_rules.specs.ShownStream.{Item}
use Rattle.wsn_print.specs.declared.shown.PlacedEvent.{PlacedEvent}
use Rattle.wsn_print.specs.ShownParts.{StandsFor}
use Rattle.wsn_shown_text.specs.DifferenceText.{compared_event_in}
use Rattle.wsn_print.proofs.Pieces.{first_stops, second_stops, two_pieces, three_pieces}
use Rattle.wsn_shown_text.proofs.PlacedItems.{event_is, none_is, of_placed, of_none}
use Rattle.wsn_shown_text.proofs.differences.put_event.Goals as goal

pub returns-in_err-put_line-clause-text : goal.returns-in_err-put_line-clause-text
returns-in_err-put_line-clause-text g c = λ item stands.
    first_stops c.args.to.now c.put_line.new.to c.args.stream.now (compared_event_in c.args.shape c.args.view c.args.role item) _ _ _
    refl (subst (λ (t : List ℕ). (c.in_err-put_line.field-0.0 ≡ stop.Write) × IsPartlyWritten c.args.to.now c.put_line.new.to t) c.as_bytes.ensures.value c.in_err-put_line.ensures) c.from_residual.ensures.1

pub returns-in_err-put_placed-in-Some-clause-text :
    goal.returns-in_err-put_placed-in-Some-clause-text
returns-in_err-put_placed-in-Some-clause-text g c = λ item stands.
    of_placed c.args.view c.in-Some.placed item (subst (λ (p : Option PlacedEvent). StandsFor c.args.view p item) c.in-Some.is stands)
    (λ (i : Option Item). IsWrittenOrStops c.args.to.now c.put_placed.new.to (c.args.stream.now ++ compared_event_in c.args.shape c.args.view c.args.role i) c.from_residual-in_err-put_placed-in-Some.result)
    (λ offset event frames is. second_stops c.args.to.now c.put_line.new.to c.put_placed.new.to _ _ _ _ _ _
    (ap (λ (t : List ℕ). c.args.stream.now ++ t) (event_is c.args.shape c.args.view c.args.role offset event frames)) (subst (IsWritten c.args.to.now c.put_line.new.to) c.as_bytes.ensures.value c.in_ok-put_line.ensures)
    (c.in_err-put_placed-in-Some.ensures.text offset event frames is) c.from_residual-in_err-put_placed-in-Some.ensures.1)

pub returns-in_ok-put_placed-in-Some-clause-text :
    goal.returns-in_ok-put_placed-in-Some-clause-text
returns-in_ok-put_placed-in-Some-clause-text g c = λ item stands.
    of_placed c.args.view c.in-Some.placed item (subst (λ (p : Option PlacedEvent). StandsFor c.args.view p item) c.in-Some.is stands)
    (λ (i : Option Item). IsWrittenOrStops c.args.to.now c.put_piece.new.to (c.args.stream.now ++ compared_event_in c.args.shape c.args.view c.args.role i) c.put_piece.result)
    (λ offset event frames is. three_pieces c.args.to.now c.put_line.new.to c.put_placed.new.to c.put_piece.new.to _ _ _ _ _
    (ap (λ (t : List ℕ). c.args.stream.now ++ t) (event_is c.args.shape c.args.view c.args.role offset event frames)) (subst (IsWritten c.args.to.now c.put_line.new.to) c.as_bytes.ensures.value c.in_ok-put_line.ensures)
    (c.in_ok-put_placed-in-Some.ensures.text offset event frames is) c.put_piece.ensures.text)

pub returns-in-None-clause-text : goal.returns-in-None-clause-text
returns-in-None-clause-text g c = λ item stands.
    of_none c.args.view item (subst (λ (p : Option PlacedEvent). StandsFor c.args.view p item) c.in-None.is stands)
    (λ (i : Option Item). IsWrittenOrStops c.args.to.now c.put_piece-in-None.new.to (c.args.stream.now ++ compared_event_in c.args.shape c.args.view c.args.role i) c.put_piece-in-None.result)
    (two_pieces c.args.to.now c.put_line.new.to c.put_piece-in-None.new.to _ _ _ _ (ap (λ (t : List ℕ). c.args.stream.now ++ t) (none_is c.args.shape c.args.view c.args.role))
    (subst (IsWritten c.args.to.now c.put_line.new.to) c.as_bytes.ensures.value c.in_ok-put_line.ensures) c.put_piece-in-None.ensures.text)
