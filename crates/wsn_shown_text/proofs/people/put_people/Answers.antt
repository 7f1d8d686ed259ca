use Rattle.std.proofs.Common.{◌≡◌, ℕ, ◌≢◌, Bool, nat_lt, if◌then◌else◌, Option, None, Some, List, [], ◌∷◌, ◌++◌, length, replicate, codes, decimal, refl, sym, ap, ◌∙◌, subst, append_assoc, append-nil, rules}
use Rattle.wsn_io.specs.Transfer.{IsWritten, IsPartlyWritten}
use Rattle.wsn_io.specs.declared.stop.Stop.TheVariants as stop
use Rattle.wsn_io.specs.Stops.{IsWrittenOrStops}
use Rattle.wsn_print.proofs.Pieces.{first_stops, second_stops, three_pieces}
use Rattle.wsn_shown_text.specs.PeopleText.{people_front, people_line, people_rest}
use Rattle.wsn_print.specs.ShownParts.{position_of}
use Rattle.wsn_shown_text.proofs.people.put_people.Goals as goal

pub returns-in_err-put_front : goal.returns-in_err-put_front
returns-in_err-put_front g c = λ shown is.
    let front = c.args.front.now in
    let n = c.args.view in
    let at = position_of front.origin in
    let parts = c.push_item-rest.ensures shown is in
    first_stops c.args.to.now c.put_front.new.to (people_front front.role at) ((c.push_item-rest.new.line) ++ (parts.0)) (people_line n front.role at shown) c.in_err-put_front.field-0.0 c.from_residual.result
    (ap (λ (bs : List ℕ). people_front front.role at ++ bs) parts.2) (c.in_err-put_front.ensures) c.from_residual.ensures.1

pub returns-in_err-put_line : goal.returns-in_err-put_line
returns-in_err-put_line g c = λ shown is.
    let front = c.args.front.now in
    let n = c.args.view in
    let at = position_of front.origin in
    let parts = c.push_item-rest.ensures shown is in
    second_stops c.args.to.now c.put_front.new.to c.put_line.new.to (people_front front.role at) (c.push_item-rest.new.line) (parts.0) (people_line n front.role at shown) c.in_err-put_line.field-0.0 c.from_residual-in_err-put_line.result
    (ap (λ (bs : List ℕ). people_front front.role at ++ bs) parts.2) (c.in_ok-put_front.ensures) (subst (λ (t : List ℕ). (c.in_err-put_line.field-0.0 ≡ stop.Write) × IsPartlyWritten c.put_front.new.to c.put_line.new.to t) c.bytes.ensures (c.in_err-put_line.ensures)) c.from_residual-in_err-put_line.ensures.1

pub returns : goal.returns
returns g c = λ shown is.
    let front = c.args.front.now in
    let n = c.args.view in
    let at = position_of front.origin in
    let parts = c.push_item-rest.ensures shown is in
    three_pieces c.args.to.now c.put_front.new.to c.put_line.new.to c.put_rest.new.to (people_front front.role at) (c.push_item-rest.new.line) (parts.0) (people_line n front.role at shown) c.put_rest.result
    (ap (λ (bs : List ℕ). people_front front.role at ++ bs) parts.2) (c.in_ok-put_front.ensures) (subst (IsWritten c.put_front.new.to c.put_line.new.to) c.bytes.ensures (c.in_ok-put_line.ensures)) (c.put_rest.ensures parts.0 parts.1)
