use Rattle.std.proofs.Common.{ℕ, List, sym, ◌∙◌, subst}
use Rattle.wsn_io.specs.Stops.{IsWrittenOrStops}
use Rattle.wsn_shown_text.specs.Views.{view_in}
use Rattle.wsn_shown_text.proofs.PeopleTexts.{hidden, seen}
use Rattle.wsn_shown_text.proofs.people_views.put_people_view.Goals as goal

pub returns-then-is_hidden : goal.returns-then-is_hidden
returns-then-is_hidden g c =
    subst (λ (t : List ℕ). IsWrittenOrStops c.args.to.now c.put_line.new.to t c.put_line.result)
    (hidden c.args.limit (view_in c.args.view.now) (sym c.is_hidden.ensures ∙ c.if-is_hidden.true)) c.put_line.ensures

pub returns-else-is_hidden : goal.returns-else-is_hidden
returns-else-is_hidden g c =
    subst (λ (t : List ℕ). IsWrittenOrStops c.args.to.now c.put_people_seen.new.to t c.put_people_seen.result)
    (seen c.args.limit (view_in c.args.view.now) (sym c.is_hidden.ensures ∙ c.if-is_hidden.false)) c.put_people_seen.ensures
