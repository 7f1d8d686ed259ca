use Rattle.wsn_plan.proofs.EventsAhead.{no_message}
use Rattle.wsn_plan.proofs.walking.message_len.Goals as goal

pub returns-in_default : goal.returns-in_default
returns-in_default g c = no_message c.args.event.now c.in_default.not-Message
