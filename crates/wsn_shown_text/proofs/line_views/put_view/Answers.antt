use Rattle.std.proofs.Common.{ℕ, List, refl, sym, ◌∙◌, subst, ap}
use Rattle.wsn_io.specs.Stops.{IsWrittenOrStops}
use Rattle.wsn_shown_text.specs.ShownText.{view_text}
use Rattle.wsn_shown_text.specs.Views.{PayloadView, view_in, IsReadable}
use Rattle.wsn_shown_text.proofs.HeldViews.{hidden, seen}
use Rattle.wsn_shown_text.proofs.line_views.put_view.Goals as goal

pub returns-then-is_hidden-clause-text : goal.returns-then-is_hidden-clause-text
returns-then-is_hidden-clause-text g c = λ v is readable.
    subst (λ (t : List ℕ). IsWrittenOrStops c.args.to.now c.put_line.new.to t c.put_line.result)
    (hidden c.args.limit (view_in c.args.view.now) (sym c.is_hidden.ensures ∙ c.if-is_hidden.true) ∙ ap (view_text c.args.limit) is) c.put_line.ensures

pub returns-else-is_hidden-clause-text : goal.returns-else-is_hidden-clause-text
returns-else-is_hidden-clause-text g c = λ v is readable.
    subst (λ (w : PayloadView). IsWrittenOrStops c.args.to.now c.put_seen.new.to (view_text c.args.limit w) c.put_seen.result) is
    (subst (λ (t : List ℕ). IsWrittenOrStops c.args.to.now c.put_seen.new.to t c.put_seen.result)
    (seen c.args.limit (view_in c.args.view.now) (sym c.is_hidden.ensures ∙ c.if-is_hidden.false))
    (c.put_seen.ensures.text (view_in c.args.view.now) refl (subst (λ (w : PayloadView). IsReadable w.shown) (sym is) readable)))
