use Rattle.wsn_plan.proofs.EventsAhead.{text_or_none}
use Rattle.wsn_plan.proofs.walking.text_len.Goals as goal

pub returns-then-at-events : goal.returns-then-at-events
returns-then-at-events g c =
    text_or_none c.args.events.now c.args.at c.index-events-at.result c.if-at-events.true c.index-events-at.is c.requires c.message_len.result c.message_len.ensures
