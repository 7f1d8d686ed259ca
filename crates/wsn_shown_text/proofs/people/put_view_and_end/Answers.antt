use Rattle.std.proofs.Common.{◌≡◌, ℕ, ◌≢◌, Bool, nat_lt, if◌then◌else◌, Option, None, Some, List, [], ◌∷◌, ◌++◌, length, replicate, codes, decimal, refl, sym, ap, ◌∙◌, subst, append_assoc, append-nil, rules}
use Rattle.wsn_io.specs.Transfer.{IsWritten, IsPartlyWritten}
use Rattle.wsn_io.specs.declared.stop.Stop.TheVariants as stop
use Rattle.wsn_io.specs.Stops.{IsWrittenOrStops}
use Rattle.wsn_print.proofs.Pieces.{first_stops, two_pieces}
use Rattle.wsn_shown_text.specs.PeopleText.{people_view}
use Rattle.wsn_shown_text.specs.Views.{view_in}
use Rattle.wsn_shown_text.proofs.people.put_view_and_end.Goals as goal

pub returns-in_err-put_people_view : goal.returns-in_err-put_people_view
returns-in_err-put_people_view g c =
    let seen = people_view c.args.view (view_in c.args.shown.now) in
    first_stops c.args.to.now c.put_people_view.new.to (seen) (codes "\n") (seen ++ codes "\n") c.in_err-put_people_view.field-0.0 c.from_residual.result
    (refl) (c.in_err-put_people_view.ensures) c.from_residual.ensures.1

pub returns : goal.returns
returns g c =
    let seen = people_view c.args.view (view_in c.args.shown.now) in
    two_pieces c.args.to.now c.put_people_view.new.to c.put_line.new.to (seen) (codes "\n") (seen ++ codes "\n") c.put_line.result
    (refl) (c.in_ok-put_people_view.ensures) (c.put_line.ensures)
