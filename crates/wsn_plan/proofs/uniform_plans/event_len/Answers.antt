use Rattle.std.proofs.Common.{◌≡◌, refl}
use Rattle.wsn_events.specs.declared.event.Event.{Event}
use Rattle.wsn_events.specs.declared.event.Event.TheVariants as events
use Rattle.wsn_events.specs.EventsMeant.{meant}
use Rattle.wsn_plan.specs.Walking.{IsControl}
use Rattle.wsn_plan.proofs.uniform_plans.event_len.Goals as goal

no_message : {A : Type 0} (e : Event A) → ((kind : _) (text : _) → e ≡ events.Message kind text → ⊥) → IsControl (meant e)
no_message (events.Message kind text) none = absurd (none kind text refl)
no_message _ none = (_, _, refl)

pub returns-in_default : goal.returns-in_default
returns-in_default g c = no_message c.args.event.now c.in_default.not-Message
