use Rattle.std.proofs.Common.{[], if◌then◌else◌, codes, refl, sym, subst}
use Rattle.wsn_io.specs.Stops.{IsWrittenOrStops}
use Rattle.wsn_shown_text.specs.ShownText.{shown_text, seen_text}
use Rattle.wsn_shown_text.specs.Views.{PayloadView, view_in, shown_in, IsReadable}
use Rattle.wsn_print.proofs.Pieces.{first_stops, two_pieces}
use Rattle.wsn_shown_text.proofs.line_views.put_seen.Goals as goal

pub returns-in_err-put_shown-clause-text : goal.returns-in_err-put_shown-clause-text
returns-in_err-put_shown-clause-text g c = λ v is readable.
    let view = c.args.view.now in
    subst (λ (w : PayloadView). IsWrittenOrStops c.args.to.now c.put_shown.new.to (seen_text w) c.from_residual.result) is
    (first_stops c.args.to.now c.put_shown.new.to (shown_text (shown_in view.shown)) (if view.more then codes " .." else []) (seen_text (view_in view)) c.in_err-put_shown.field-0.0 c.from_residual.result refl
    (c.in_err-put_shown.ensures.text (subst (λ (w : PayloadView). IsReadable w.shown) (sym is) readable)) c.from_residual.ensures.1)

pub returns-clause-text : goal.returns-clause-text
returns-clause-text g c = λ v is readable.
    let view = c.args.view.now in
    subst (λ (w : PayloadView). IsWrittenOrStops c.args.to.now c.put_if.new.to (seen_text w) c.put_if.result) is
    (two_pieces c.args.to.now c.put_shown.new.to c.put_if.new.to (shown_text (shown_in view.shown)) (if view.more then codes " .." else []) (seen_text (view_in view)) c.put_if.result refl
    (c.in_ok-put_shown.ensures.text (subst (λ (w : PayloadView). IsReadable w.shown) (sym is) readable)) c.put_if.ensures)
