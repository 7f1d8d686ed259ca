use Rattle.std.proofs.Common.{◌≡◌, ℕ, ◌+◌, ◌-◌, ◌/◌, nat_lt, length, take, sym, ap, ◌∙◌, subst, rules}
use Rattle.wsn_print.specs.DifferingPayloads.{view_start, payload_on}
use Rattle.wsn_print.specs.ShownParts.{IsFrontOf, text_part}
use Rattle.wsn_shown_text.specs.Views.Shown.{Ascii, Hex}
use Rattle.wsn_shown_text.proofs.HeldViews.{as_view}
use Rattle.wsn_shown_text.proofs.DifferingParts.{ascii_of_part, bytes_of_part, below, fewer}
use Rattle.wsn_shown_text.proofs.views.view_of_part.Goals as goal

pub returns-then-part : goal.returns-then-part
returns-then-part c = λ place event is.
    let n = c.args.view in
    let all = payload_on place event in
    let most : c.from-before.result + c.bytes.result ≡ place - view_start place event + n =
    ap (λ (k : ℕ). k + c.bytes.result) (c.from-before.ensures ∙ is.before) ∙ ap (λ (k : ℕ). place - view_start place event + k) c.bytes.ensures.is in
    c.ascii_part.ensures all (subst (λ (k : ℕ). IsFrontOf k all c.args.part.now.bytes) (sym most) is.holds)
    ∙ ap (λ (k : ℕ). as_view (Ascii (take (text_part k all) all)) (nat_lt (text_part k all) (length all))) most
    ∙ ascii_of_part n place event (sym is.text ∙ c.if-part.true)

pub returns-else-part : goal.returns-else-part
returns-else-part c = λ place event is.
    let n = c.args.view in
    let all = payload_on place event in
    let most : c.from-before.result + c.bytes-else-part.result / 2 ≡ place - view_start place event + n / 2 =
    ap (λ (k : ℕ). k + c.bytes-else-part.result / 2) (c.from-before.ensures ∙ is.before) ∙ ap (λ (k : ℕ). place - view_start place event + k / 2) c.bytes-else-part.ensures.is in
    let held = fewer (c.from-before.result + c.bytes-else-part.result / 2) (place - view_start place event + n) all c.args.part.now.bytes.held.now (below (c.from-before.result + c.bytes-else-part.result / 2) (place - view_start place event) n most) is.holds.1 in
    c.first_bytes.ensures all (is.holds.0, held)
    ∙ ap (λ (k : ℕ). as_view (Hex (take k all)) (nat_lt k (length all))) most
    ∙ bytes_of_part n place event (sym is.text ∙ c.if-part.false)

pub overflow_add-before : goal.overflow_add-before
overflow_add-before c = search rules

pub overflow_add-before-else-part : goal.overflow_add-before-else-part
overflow_add-before-else-part c = search rules
