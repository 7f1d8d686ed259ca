use Rattle.std.proofs.Common.{◌≡◌, ℕ, ◌/◌, ◌-◌, nat_lt, length, drop, sym, ap, ◌∙◌, subst}
use Rattle.wsn_print.specs.ShownParts.{HoldsLast}
use Rattle.wsn_shown_text.proofs.HeldViews.{as_end, last_view}
use Rattle.wsn_shown_text.proofs.views.view_of_end.Goals as goal

pub returns : goal.returns
returns c = λ all holds.
    let held = c.args.bytes.now.held.now in
    let half : c.bytes-most.result / 2 ≡ c.args.view / 2 = ap (λ (k : ℕ). k / 2) c.bytes-most.ensures.is in
    last_view (c.bytes-most.result / 2) c.args.bytes.now.bytes all held c.end_of.result.now holds.0 (subst (λ (k : ℕ). HoldsLast k all held) (sym half) holds.1) c.end_of.ensures
    ∙ ap (λ (k : ℕ). as_end (drop (length all - k) all) (nat_lt k (length all))) half
