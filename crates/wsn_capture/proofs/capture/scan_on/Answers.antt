use Rattle.std.proofs.Common.{sym, ◌∙◌, rules}
use Rattle.wsn_capture.proofs.StreamSteps.{streamed_after, streamed_on, unrefused_by, refused_by}
use Rattle.wsn_capture.proofs.capture.scan_on.Goals as goal

pub returns-then-is_some : goal.returns-then-is_some
returns-then-is_some c = λ role limits came has.
    streamed_after role limits c.args.scan.now came c.args.bytes.now (refused_by c.args.scan.now c.refusal.result c.refusal.ensures (sym c.is_some.ensures ∙ c.if-is_some.true)) has

pub feed-refusal-requires : goal.feed-refusal-requires
feed-refusal-requires c = record { begun = search rules; fits = search rules }

pub returns : goal.returns
returns c = λ role limits came has.
    streamed_on role limits c.args.scan.now c.feed-refusal.new.self came c.args.bytes.now c.feed-refusal.result
    (unrefused_by c.args.scan.now c.refusal.result c.refusal.ensures (sym c.is_some.ensures ∙ c.if-is_some.false)) c.feed-refusal.ensures has
