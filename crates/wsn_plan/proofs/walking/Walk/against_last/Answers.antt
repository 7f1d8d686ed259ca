use Rattle.std.proofs.Common.{◌≡◌, ℕ, ◌-◌, length, map, drop, refl, sym, ap, ◌∙◌, true≢false, rules, arith}
use Rattle.std.proofs.lemmas.Grind.{common_steps}
use Rattle.wsn_rules.specs.declared.step.Step.TheVariants.{Last}
use Rattle.wsn_plan.specs.Gathering.{kept_meant}
use Rattle.wsn_plan.proofs.EventsAhead.{first_is_first, text_is, some_left, begins_with_message, begins_with_control, message_or_not}
use Rattle.wsn_plan.proofs.Reasons.{no_message_left, not_a_message, last_wrong_form, last_passes}
use Rattle.wsn_plan.proofs.walking.Walk.against_last.Goals as goal

pub text_len-requires : goal.text_len-requires
text_len-requires g c = first_is_first c.args.self.now c.args.events.now c.requires

pub returns-in_default : goal.returns-in_default
returns-in_default g c =
    no_message_left c.args.role c.args.limits c.args.self.now.pieces c.args.self.now.held (drop c.args.self.now.event (map kept_meant c.args.events.now)) (Last c.args.frame.key c.args.frame.form) (c.if-not-has_key_of.ensures.0 refl) (some_left c.args.self.now c.args.events.now c.requires c.if-self-events.false)
    (tt, text_is c.args.self.now c.args.events.now c.requires ∙ c.in_default.ensures)

pub returns-then-self : goal.returns-then-self
returns-then-self g c =
    not_a_message c.args.role c.args.limits c.args.self.now.pieces c.args.self.now.held (drop c.args.self.now.event (map kept_meant c.args.events.now)) c.args.frame.key c.args.frame.form (c.if-not-has_key_of.ensures.0 refl) (some_left c.args.self.now c.args.events.now c.requires c.if-self-events.false) c.in-Some.ensures.0 (text_is c.args.self.now c.args.events.now c.requires ∙ c.in-Some.ensures.1)
    (begins_with_control c.args.self.now c.args.events.now c.requires c.if-self.true)

pub returns-then-not-is_allowed_form : goal.returns-then-not-is_allowed_form
returns-then-not-is_allowed_form g c =
    let size : c.saturating_sub.result ≡ length c.in-Some.ensures.0 - c.args.self.now.held = c.saturating_sub.ensures ∙ ap (λ (n : ℕ). n - c.args.self.now.held) c.in-Some.ensures.2 in
    last_wrong_form c.args.role c.args.limits c.args.self.now.pieces c.args.self.now.held (drop c.args.self.now.event (map kept_meant c.args.events.now)) c.args.frame.key c.args.frame.form (c.if-not-has_key_of.ensures.0 refl) (some_left c.args.self.now c.args.events.now c.requires c.if-self-events.false) c.in-Some.ensures.0 (text_is c.args.self.now c.args.events.now c.requires ∙ c.in-Some.ensures.1) (λ control. message_or_not (drop c.args.self.now.event (map kept_meant c.args.events.now)) (begins_with_message c.args.self.now c.args.events.now c.requires c.if-self.false (some_left c.args.self.now c.args.events.now c.requires c.if-self-events.false)) control)
    (λ allowed. true≢false (sym (c.if-not-is_allowed_form.ensures.1 (rw (c.lengths.ensures, size) allowed))))

pub returns : goal.returns
returns g c =
    let size : c.saturating_sub.result ≡ length c.in-Some.ensures.0 - c.args.self.now.held = c.saturating_sub.ensures ∙ ap (λ (n : ℕ). n - c.args.self.now.held) c.in-Some.ensures.2 in
    last_passes c.args.role c.args.limits c.args.self.now.pieces c.args.self.now.held (drop c.args.self.now.event (map kept_meant c.args.events.now)) c.args.frame.key c.args.frame.form (c.if-not-has_key_of.ensures.0 refl) (some_left c.args.self.now c.args.events.now c.requires c.if-self-events.false) c.in-Some.ensures.0 (text_is c.args.self.now c.args.events.now c.requires ∙ c.in-Some.ensures.1) (λ control. message_or_not (drop c.args.self.now.event (map kept_meant c.args.events.now)) (begins_with_message c.args.self.now c.args.events.now c.requires c.if-self.false (some_left c.args.self.now c.args.events.now c.requires c.if-self-events.false)) control)
    (rw (← size, ← c.lengths.ensures) (c.if-not-is_allowed_form.ensures.0 refl))

pub returns-then-not-has_key_of : goal.returns-then-not-has_key_of
returns-then-not-has_key_of g c = search rules

pub returns-then-self-events : goal.returns-then-self-events
returns-then-self-events g c = grind (arith, common_steps)
