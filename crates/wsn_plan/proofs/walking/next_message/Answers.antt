use Rattle.std.proofs.Common.{◌∙◌, sym, arith}
use Rattle.wsn_plan.specs.Gathering.{kept_meant}
use Rattle.wsn_plan.specs.Walking.{IsControl, IsMessageOf}
use Rattle.wsn_plan.proofs.EventsAhead.{has_reported, not_reported, message_there, at_a_message, past_a_control}
use Rattle.wsn_plan.proofs.walking.next_message.Goals as goal

pub returns-then-is_some-clause-message : goal.returns-then-is_some-clause-message
returns-then-is_some-clause-message g c =
    let event = c.index-events-at.result in
    let found = has_reported (IsControl (kept_meant event)) (IsMessageOf (kept_meant event)) c.message_len.result c.message_len.ensures (sym c.is_some.ensures ∙ c.if-is_some.true) in
    sym (c.loop-at.invariant.1 ∙ at_a_message _ (message_there c.args.events.now c.loop-at.at found.0 event c.loop-at-test.true c.index-events-at.is found.1))

pub loop-at-preserved : goal.loop-at-preserved
loop-at-preserved g c =
    let event = c.index-events-at.result in
    let control = not_reported (IsControl (kept_meant event)) (IsMessageOf (kept_meant event)) c.message_len.result c.message_len.ensures (sym c.is_some.ensures ∙ c.if-is_some.false) in
    (omega arith, c.loop-at.invariant.1 ∙ past_a_control c.args.events.now c.loop-at.at event c.loop-at-test.true c.index-events-at.is control)
