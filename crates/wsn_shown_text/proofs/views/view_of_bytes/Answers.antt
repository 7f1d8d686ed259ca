use Rattle.std.proofs.Common.{◌≡◌, ℕ, ◌/◌, nat_lt, length, take, sym, ap, ◌∙◌, subst}
use Rattle.wsn_print.specs.ShownParts.{IsFrontOf}
use Rattle.wsn_shown_text.specs.Views.Shown.{Hex}
use Rattle.wsn_shown_text.proofs.HeldViews.{as_view}
use Rattle.wsn_shown_text.proofs.views.view_of_bytes.Goals as goal

pub returns : goal.returns
returns c = λ all holds.
    let half : c.bytes.result / 2 ≡ c.args.view / 2 = ap (λ (k : ℕ). k / 2) c.bytes.ensures.is in
    c.first_bytes.ensures all (subst (λ (k : ℕ). IsFrontOf k all c.args.bytes.now) (sym half) holds)
    ∙ ap (λ (k : ℕ). as_view (Hex (take k all)) (nat_lt k (length all))) half
