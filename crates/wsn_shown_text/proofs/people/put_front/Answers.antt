use Rattle.std.proofs.Common.{◌≡◌, ℕ, ◌≢◌, Bool, nat_lt, if◌then◌else◌, Option, None, Some, List, [], ◌∷◌, ◌++◌, length, replicate, codes, decimal, refl, sym, ap, ◌∙◌, subst, append_assoc, append-nil, rules}
use Rattle.wsn_io.specs.Transfer.{IsWritten, IsPartlyWritten}
use Rattle.wsn_io.specs.declared.stop.Stop.TheVariants as stop
use Rattle.wsn_io.specs.Stops.{IsWrittenOrStops}
use Rattle.wsn_print.proofs.Pieces.{first_stops, two_pieces}
use Rattle.wsn_shown_text.specs.PeopleText.{arrow, time_column, people_front}
use Rattle.wsn_print.specs.ShownParts.{position_of}
use Rattle.wsn_shown_text.proofs.people.put_front.Goals as goal

pub returns-in_err-put_line : goal.returns-in_err-put_line
returns-in_err-put_line g c =
    let role = c.args.front.now.role in
    let at = position_of c.args.front.now.origin in
    first_stops c.args.to.now c.put_line.new.to (arrow role) (time_column at) (people_front role at) c.in_err-put_line.field-0.0 c.from_residual.result
    (refl) (subst (λ (t : List ℕ). (c.in_err-put_line.field-0.0 ≡ stop.Write) × IsPartlyWritten c.args.to.now c.put_line.new.to t) c.arrow_of.ensures (c.in_err-put_line.ensures)) c.from_residual.ensures.1

pub returns : goal.returns
returns g c =
    let role = c.args.front.now.role in
    let at = position_of c.args.front.now.origin in
    two_pieces c.args.to.now c.put_line.new.to c.put_time.new.to (arrow role) (time_column at) (people_front role at) c.put_time.result
    (refl) (subst (IsWritten c.args.to.now c.put_line.new.to) c.arrow_of.ensures (c.in_ok-put_line.ensures)) (c.put_time.ensures)
