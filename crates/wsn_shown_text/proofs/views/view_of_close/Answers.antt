use Rattle.std.proofs.Common.{◌≡◌, ℕ, ◌+◌, ◌*◌, ◌-◌, false, List, length, take, drop, get_or, sym, ap, ◌∙◌, rules}
use Rattle.wsn_shown_text.specs.Views.Shown.{Code}
use Rattle.wsn_print.proofs.HeldParts.{rest_is}
use Rattle.wsn_shown_text.proofs.HeldViews.{as_view, code_is, code_unseen, no_code}
use Rattle.wsn_shown_text.proofs.views.view_of_close.Goals as goal

pub returns-then-body-lt2 : goal.returns-then-body-lt2
returns-then-body-lt2 c = c.no_code.ensures ∙ no_code c.args.view c.args.body.now c.if-body-lt2.true

pub returns-then-bytes-eq0 : goal.returns-then-bytes-eq0
returns-then-bytes-eq0 c =
    c.no_code-then-bytes-eq0.ensures ∙ code_unseen c.args.view c.args.body.now (sym c.bytes.ensures.is ∙ c.if-bytes-eq0.true) c.if-body-lt2.false

pub returns : goal.returns
returns c =
    let body = c.args.body.now in
    let code : c.from.result * 256 + c.from-2.result ≡ get_or body 0 0 * 256 + get_or body 1 0 = cc in
    ap (λ (k : ℕ). as_view (Code k (take (length body - 2) (drop 2 body))) false) code
    ∙ ap (λ (rest : List ℕ). as_view (Code (get_or body 0 0 * 256 + get_or body 1 0) rest) false) (rest_is 2 body)
    ∙ code_is c.args.view body (λ none. c.if-bytes-eq0.false (c.bytes.ensures.is ∙ none)) c.if-body-lt2.false

pub bounds-body-0 : goal.bounds-body-0
bounds-body-0 c = search rules

pub overflow_mul-code : goal.overflow_mul-code
overflow_mul-code c = search rules

pub bounds-body-1 : goal.bounds-body-1
bounds-body-1 c = search rules

pub overflow_add-code : goal.overflow_add-code
overflow_add-code c = search rules

pub slice_bounds-result-count : goal.slice_bounds-result-count
slice_bounds-result-count c = search rules

pub slice_bounds-result-start : goal.slice_bounds-result-start
slice_bounds-result-start c = search rules

pub slice_bounds-result-end : goal.slice_bounds-result-end
slice_bounds-result-end c = search rules
