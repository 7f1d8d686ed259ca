use Rattle.std.proofs.Common.{◌≡◌, ℕ, ◌≢◌, Bool, nat_lt, if◌then◌else◌, Option, None, Some, List, [], ◌∷◌, ◌++◌, length, replicate, codes, decimal, refl, sym, ap, ◌∙◌, subst, append_assoc, append-nil, rules}
use Rattle.wsn_io.specs.Transfer.{IsWritten, IsPartlyWritten}
use Rattle.wsn_io.specs.declared.stop.Stop.TheVariants as stop
use Rattle.wsn_io.specs.Stops.{IsWrittenOrStops}
use Rattle.wsn_print.proofs.Pieces.{first_stops, two_pieces}
use Rattle.wsn_shown_text.specs.PeopleText.{people_shown, people_seen}
use Rattle.wsn_shown_text.specs.Views.{shown_in, view_in}
use Rattle.wsn_shown_text.proofs.people_views.put_people_seen.Goals as goal

pub returns-in_err-put_people_shown : goal.returns-in_err-put_people_shown
returns-in_err-put_people_shown g c =
    let view = c.args.view.now in
    first_stops c.args.to.now c.put_people_shown.new.to (people_shown (shown_in view.shown)) (if view.more then codes " .." else []) (people_seen (view_in view)) c.in_err-put_people_shown.field-0.0 c.from_residual.result
    (refl) (c.in_err-put_people_shown.ensures) c.from_residual.ensures.1

pub returns : goal.returns
returns g c =
    let view = c.args.view.now in
    two_pieces c.args.to.now c.put_people_shown.new.to c.put_if.new.to (people_shown (shown_in view.shown)) (if view.more then codes " .." else []) (people_seen (view_in view)) c.put_if.result
    (refl) (c.in_ok-put_people_shown.ensures) (c.put_if.ensures)
