use Rattle.std.proofs.Common.{take, arith, sym, ◌∙◌}
use Rattle.std.proofs.lemmas.Simd.{leading_from_mask_l}
use Rattle.wsn_print.specs.Runs.{class_of, may_hide}
use Rattle.wsn_print.proofs.PlainStarts.{plain_until, hidden_after, classes_long, within_block, first_bit}
use lib.Lanes.{zip2}
use Rattle.wsn_print.proofs.escapes.plain_at_start.Goals as goal

pub returns-then-starts-eq0-clause-plain : goal.returns-then-starts-eq0-clause-plain
returns-then-starts-eq0-clause-plain c =
    let text = c.args.text.now in
    let next = c.next_bytes.result in
    let size = c.next_bytes.ensures.long in
    let all = leading_from_mask_l may_hide (zip2 class_of (take 16 text) next) (sym c.hidden_starts-starts.ensures ∙ c.if-starts-eq0.true) ∙ classes_long text next c.requires size in
    plain_until text next 16 c.requires size c.next_bytes.ensures.next (omega arith) (omega (arith, all))

pub returns-else-starts-eq0-clause-within : goal.returns-else-starts-eq0-clause-within
returns-else-starts-eq0-clause-within c =
    let text = c.args.text.now in
    let next = c.next_bytes.result in
    let size = c.next_bytes.ensures.long in
    within_block text next _ c.requires size (first_bit text next c.hidden_starts-starts.result c.requires size c.hidden_starts-starts.ensures c.if-starts-eq0.false)

pub returns-else-starts-eq0-clause-plain : goal.returns-else-starts-eq0-clause-plain
returns-else-starts-eq0-clause-plain c =
    let text = c.args.text.now in
    let next = c.next_bytes.result in
    let size = c.next_bytes.ensures.long in
    let is = first_bit text next c.hidden_starts-starts.result c.requires size c.hidden_starts-starts.ensures c.if-starts-eq0.false in
    plain_until text next _ c.requires size c.next_bytes.ensures.next (within_block text next _ c.requires size is) (omega (arith, is))

pub returns-else-starts-eq0-clause-most : goal.returns-else-starts-eq0-clause-most
returns-else-starts-eq0-clause-most c = λ few.
    let text = c.args.text.now in
    let next = c.next_bytes.result in
    let size = c.next_bytes.ensures.long in
    hidden_after text next _ c.requires size c.next_bytes.ensures.next few
    (first_bit text next c.hidden_starts-starts.result c.requires size c.hidden_starts-starts.ensures c.if-starts-eq0.false)
