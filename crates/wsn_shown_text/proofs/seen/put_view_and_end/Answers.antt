use Rattle.std.proofs.Common.{ℕ, List, ◌++◌, refl, ◌∙◌, subst}
use Rattle.wsn_io.specs.Stops.{IsWrittenOrStops}
use Rattle.wsn_shown_text.specs.Views.{view_in}
use Rattle.wsn_shown_text.specs.EntryFormats.{seen_in, end_in}
use Rattle.wsn_print.proofs.Pieces.{first_stops, two_pieces}
use Rattle.wsn_shown_text.proofs.seen.put_view_and_end.Goals as goal

pub returns-in_err-put_shown : goal.returns-in_err-put_shown
returns-in_err-put_shown g c = λ readable.
    let seen = seen_in c.args.shape c.args.view (view_in c.args.shown.now) in
    let end = end_in c.args.shape in
    first_stops c.args.to.now c.put_shown.new.to seen end (seen ++ end) c.in_err-put_shown.field-0.0 c.from_residual.result refl (c.in_err-put_shown.ensures.text readable) c.from_residual.ensures.1

pub returns : goal.returns
returns g c = λ readable.
    let seen = seen_in c.args.shape c.args.view (view_in c.args.shown.now) in
    let end = end_in c.args.shape in
    two_pieces c.args.to.now c.put_shown.new.to c.put_line.new.to seen end (seen ++ end) c.put_line.result refl (c.in_ok-put_shown.ensures.text readable)
    (subst (λ (t : List ℕ). IsWrittenOrStops c.put_shown.new.to c.put_line.new.to t c.put_line.result) (c.as_bytes.ensures.value ∙ c.end_of.ensures.text) c.put_line.ensures)
