use Rattle.std.proofs.Common.{sym, subst}
use Rattle.wsn_io.specs.Stops.{IsWrittenOrStops}
use Rattle.wsn_shown_text.specs.ShownObjects.{shown_fields}
use Rattle.wsn_shown_text.specs.Views.{shown_in}
use Rattle.wsn_shown_text.specs.declared.views.Shown.{Shown}
use Rattle.wsn_shown_text.proofs.object_views.put_shown_fields.Goals as goal

pub returns-in-NoCode-clause-text : goal.returns-in-NoCode-clause-text
returns-in-NoCode-clause-text g c readable =
    subst (λ (s : Shown). IsWrittenOrStops c.args.to.now c.put_line.new.to (shown_fields (shown_in s)) c.put_line.result) (sym c.in-NoCode.is) c.put_line.ensures
