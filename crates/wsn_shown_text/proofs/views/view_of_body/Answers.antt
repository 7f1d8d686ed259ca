use Rattle.std.proofs.Common.{◌≡◌, Bool, true, if◌then◌else◌, refl, sym, ap, ◌∙◌}
use Rattle.wsn_shown_text.specs.Views.{is_printable, view_of_text, view_of_bytes}
use Rattle.wsn_shown_text.proofs.HeldViews.{all_held}
use Rattle.wsn_shown_text.proofs.TextFronts.{printable_begins}
use Rattle.wsn_shown_text.proofs.views.view_of_body.Goals as goal

pub returns-then-is_printable : goal.returns-then-is_printable
returns-then-is_printable c =
    let n = c.args.view in
    let body = c.args.body.now in
    let printable : is_printable body ≡ true = sym c.is_printable.ensures ∙ c.if-is_printable.true in
    c.view_of_text.ensures body (refl, all_held n body) (printable_begins body printable)
    ∙ sym (ap (λ (b : Bool). if b then view_of_text n body else view_of_bytes n body) printable)
