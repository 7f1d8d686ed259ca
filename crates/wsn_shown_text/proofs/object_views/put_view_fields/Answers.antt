use Rattle.std.proofs.Common.{refl, sym, subst}
use Rattle.wsn_io.specs.Stops.{IsWrittenOrStops}
use Rattle.wsn_shown_text.specs.ShownObjects.{shown_fields, truncated_field, view_fields}
use Rattle.wsn_shown_text.specs.Views.{PayloadView, view_in, shown_in, IsReadable}
use Rattle.wsn_print.proofs.Pieces.{first_stops, two_pieces}
use Rattle.wsn_shown_text.proofs.object_views.put_view_fields.Goals as goal

pub returns-in_err-put_shown_fields-clause-text : goal.returns-in_err-put_shown_fields-clause-text
returns-in_err-put_shown_fields-clause-text g c = λ v is readable.
    let view = c.args.view.now in
    subst (λ (w : PayloadView). IsWrittenOrStops c.args.to.now c.put_shown_fields.new.to (view_fields w) c.from_residual.result) is
    (first_stops c.args.to.now c.put_shown_fields.new.to (shown_fields (shown_in view.shown)) (truncated_field view.more) (view_fields (view_in view)) c.in_err-put_shown_fields.field-0.0 c.from_residual.result refl
    (c.in_err-put_shown_fields.ensures.text (subst (λ (w : PayloadView). IsReadable w.shown) (sym is) readable)) c.from_residual.ensures.1)

pub returns-clause-text : goal.returns-clause-text
returns-clause-text g c = λ v is readable.
    let view = c.args.view.now in
    subst (λ (w : PayloadView). IsWrittenOrStops c.args.to.now c.put_truncated.new.to (view_fields w) c.put_truncated.result) is
    (two_pieces c.args.to.now c.put_shown_fields.new.to c.put_truncated.new.to (shown_fields (shown_in view.shown)) (truncated_field view.more) (view_fields (view_in view)) c.put_truncated.result refl
    (c.in_ok-put_shown_fields.ensures.text (subst (λ (w : PayloadView). IsReadable w.shown) (sym is) readable)) c.put_truncated.ensures)
