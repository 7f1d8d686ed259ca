use Rattle.std.proofs.Common.{inl, inr, sym, subst}
use Rattle.wsn_io.specs.Stops.{IsWrittenOrStops}
use Rattle.wsn_print.specs.declared.format.Format.{Format}
use Rattle.wsn_shown_text.specs.DifferenceText.{difference_text}
use Rattle.wsn_shown_text.proofs.differences.put_difference_as.Goals as goal

pub returns-in-Text : goal.returns-in-Text
returns-in-Text g c = λ one other shows also differs.
    let writes = λ (f : Format). IsWrittenOrStops c.args.to.now c.put_difference.new.to (difference_text f c.args.view c.args.role c.args.difference.now.index one other) c.put_difference.result in
    elim c.in-Text.is [
      | inl is ↦ subst writes (sym is) (c.put_difference.ensures one other shows also differs)
      | inr is ↦ subst writes (sym is) (c.put_difference.ensures one other shows also differs)
    ]

pub returns-in-Json : goal.returns-in-Json
returns-in-Json g c = λ one other shows also differs.
    subst (λ (f : Format). IsWrittenOrStops c.args.to.now c.put_difference-in-Json.new.to (difference_text f c.args.view c.args.role c.args.difference.now.index one other) c.put_difference-in-Json.result) (sym c.in-Json.is)
    (c.put_difference-in-Json.ensures one other shows also differs)
