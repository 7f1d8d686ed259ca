use Rattle.std.proofs.Common.{◌≡◌, ℕ, ◌≢◌, Bool, nat_lt, if◌then◌else◌, Option, None, Some, List, [], ◌∷◌, ◌++◌, length, replicate, codes, decimal, refl, sym, ap, ◌∙◌, subst, append_assoc, append-nil, rules}
use Rattle.wsn_io.specs.Transfer.{IsWritten, IsPartlyWritten}
use Rattle.wsn_io.specs.declared.stop.Stop.TheVariants as stop
use Rattle.wsn_io.specs.Stops.{IsWrittenOrStops}
use Rattle.wsn_print.proofs.Pieces.{first_stops, two_pieces}
use Rattle.wsn_shown_text.specs.PeopleText.{people_front, offset_column, people_end_line}
use Rattle.wsn_print.specs.ShownParts.{position_of}
use Rattle.wsn_shown_text.proofs.people.put_people_end_mark.Goals as goal

pub returns-in_err-put_front : goal.returns-in_err-put_front
returns-in_err-put_front g c =
    let front = c.args.front.now in
    let at = position_of front.origin in
    first_stops c.args.to.now c.put_front.new.to (people_front front.role at) (offset_column front.offset ++ codes "  end\n") (people_end_line front.role at front.offset) c.in_err-put_front.field-0.0 c.from_residual.result
    (refl) (c.in_err-put_front.ensures) c.from_residual.ensures.1

pub returns : goal.returns
returns g c =
    let front = c.args.front.now in
    let at = position_of front.origin in
    let is = c.bytes.ensures ∙ c.push_end_mark.ensures ∙ ap (λ (bs : List ℕ). bs ++ (offset_column front.offset ++ codes "  end\n")) c.new-line.ensures in
    two_pieces c.args.to.now c.put_front.new.to c.put_line.new.to (people_front front.role at) (offset_column front.offset ++ codes "  end\n") (people_end_line front.role at front.offset) c.put_line.result
    (refl) (c.in_ok-put_front.ensures) (subst (λ (t : List ℕ). IsWrittenOrStops c.put_front.new.to c.put_line.new.to t c.put_line.result) is (c.put_line.ensures))
