use Rattle.std.proofs.Common.{map, drop, refl}
use Rattle.wsn_plan.specs.Gathering.{kept_meant}
use Rattle.wsn_plan.proofs.EventsAhead.{some_left, begins_with_message, begins_with_control, message_or_not}
use Rattle.wsn_plan.proofs.Reasons.{not_a_control, control_passes}
use Rattle.wsn_plan.proofs.walking.Walk.against_control.Goals as goal

pub returns-then-self : goal.returns-then-self
returns-then-self g c =
    λ limits. not_a_control c.args.role limits c.args.self.now.pieces c.args.self.now.held (drop c.args.self.now.event (map kept_meant c.args.events.now)) c.args.key (c.if-not-has_key_of.ensures.0 refl) (some_left c.args.self.now c.args.events.now c.requires c.if-self-events.false)
    (begins_with_message c.args.self.now c.args.events.now c.requires c.if-self.true (some_left c.args.self.now c.args.events.now c.requires c.if-self-events.false))

pub returns : goal.returns
returns g c =
    λ limits. control_passes c.args.role limits c.args.self.now.pieces c.args.self.now.held (drop c.args.self.now.event (map kept_meant c.args.events.now)) c.args.key (c.if-not-has_key_of.ensures.0 refl) (some_left c.args.self.now c.args.events.now c.requires c.if-self-events.false)
    (λ message. message_or_not (drop c.args.self.now.event (map kept_meant c.args.events.now)) message (begins_with_control c.args.self.now c.args.events.now c.requires c.if-self.false))
