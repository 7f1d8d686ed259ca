-- A body continues with its reason or with its code.
use Rattle.std.proofs.lemmas.Result.{err_from_is_err_and}
use Rattle.std.proofs.Common.{◌≡◌, Err, rules, arith, ap, ◌∙◌}
use Rattle.std.proofs.lemmas.Grind.{common_steps}
use Rattle.wsn_frame.proofs.PayloadRows.{reason_checked, reason_refused, half_code_goes_on, empty_goes_on}
use Rattle.wsn_frame.proofs.payload_check.CloseBody.feed.Goals as goal

pub returns-in_err-reason-in-Code-clause-checked : goal.returns-in_err-reason-in-Code-clause-checked
returns-in_err-reason-in-Code-clause-checked c =
    let out = err_from_is_err_and c.from_residual.result c.from_residual.ensures.1 in
    let is : c.from_residual.result ≡ Err c.in_err-reason-in-Code.field-0.0 = out.1 ∙ ap Err out.2 in
    rw is (rw c.in-Code.is (reason_refused c.in-Code.reason c.in_err-reason-in-Code.field-0.0 c.in-Code.code c.args.chunk.now c.args.last c.in_err-reason-in-Code.ensures.taken))

pub returns-in_ok-reason-in-Code-clause-checked : goal.returns-in_ok-reason-in-Code-clause-checked
returns-in_ok-reason-in-Code-clause-checked c =
    rw c.in-Code.is (reason_checked c.in-Code.reason c.in_ok-reason-in-Code.reason c.in-Code.code c.args.chunk.now c.args.last c.in_ok-reason-in-Code.ensures.taken)

pub returns-in-HalfCode-clause-checked : goal.returns-in-HalfCode-clause-checked
returns-in-HalfCode-clause-checked c =
    rw c.in-HalfCode.is (half_code_goes_on c.in-HalfCode.high c.args.chunk.now c.args.last c.feed_code-in-HalfCode.result c.requires c.feed_code-in-HalfCode.ensures.checked)

pub returns-in-Empty-2-clause-checked : goal.returns-in-Empty-2-clause-checked
returns-in-Empty-2-clause-checked c =
    rw c.in-Empty-2.is (empty_goes_on c.args.chunk.now c.args.last c.feed_code.result c.requires c.if-chunk-eq1.false c.feed_code.ensures.checked)

pub bounds-chunk-0 : goal.bounds-chunk-0
bounds-chunk-0 c = search rules

pub bounds-chunk-0-in-Empty-2 : goal.bounds-chunk-0-in-Empty-2
bounds-chunk-0-in-Empty-2 c = search rules

pub bounds-chunk-1 : goal.bounds-chunk-1
bounds-chunk-1 c = search rules

pub slice_bounds-feed_code-count : goal.slice_bounds-feed_code-count
slice_bounds-feed_code-count c = search rules

pub slice_bounds-feed_code-start : goal.slice_bounds-feed_code-start
slice_bounds-feed_code-start c = search rules

pub slice_bounds-feed_code-end : goal.slice_bounds-feed_code-end
slice_bounds-feed_code-end c = search rules

pub feed_code-requires : goal.feed_code-requires
feed_code-requires c = search rules

pub bounds-chunk-0-in-HalfCode : goal.bounds-chunk-0-in-HalfCode
bounds-chunk-0-in-HalfCode c = search rules

pub slice_bounds-feed_code-count-in-HalfCode : goal.slice_bounds-feed_code-count-in-HalfCode
slice_bounds-feed_code-count-in-HalfCode c = search rules

pub slice_bounds-feed_code-start-in-HalfCode : goal.slice_bounds-feed_code-start-in-HalfCode
slice_bounds-feed_code-start-in-HalfCode c = search rules

pub slice_bounds-feed_code-end-in-HalfCode : goal.slice_bounds-feed_code-end-in-HalfCode
slice_bounds-feed_code-end-in-HalfCode c = search rules

pub feed_code-requires-in-HalfCode : goal.feed_code-requires-in-HalfCode
feed_code-requires-in-HalfCode c = search rules

pub feed_reason-requires : goal.feed_reason-requires
feed_reason-requires c = search rules

pub returns-in_err-reason-in-Code-clause-within : goal.returns-in_err-reason-in-Code-clause-within
returns-in_err-reason-in-Code-clause-within c = search rules

pub returns-in-Empty-clause-checked : goal.returns-in-Empty-clause-checked
returns-in-Empty-clause-checked c = grind (arith, common_steps)

pub returns-in-Empty-2-clause-within : goal.returns-in-Empty-2-clause-within
returns-in-Empty-2-clause-within c = search rules

pub returns-in-HalfCode-clause-within : goal.returns-in-HalfCode-clause-within
returns-in-HalfCode-clause-within c = search rules
