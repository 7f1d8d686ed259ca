use Rattle.std.proofs.Common.{◌<◌, ◌≤◌, ◌+◌, map, drop, refl, sym, ◌∙◌, true≢false, arith}
use Rattle.wsn_rules.specs.declared.step.Step.TheVariants.{Piece}
use Rattle.wsn_plan.specs.Gathering.{kept_meant}
use Rattle.wsn_plan.proofs.EventsAhead.{first_is_first, text_is, some_left}
use Rattle.wsn_plan.proofs.Reasons.{within_or_not, no_message_left, piece_too_long, one_too_many, piece_wrong_form, piece_passes}
use Rattle.wsn_plan.proofs.walking.Walk.against_piece.Goals as goal

pub text_len-requires : goal.text_len-requires
text_len-requires g c = first_is_first c.args.self.now c.args.events.now c.requires.placed

pub returns-in_default : goal.returns-in_default
returns-in_default g c =
    no_message_left c.args.role c.args.limits c.args.self.now.pieces c.args.self.now.held (drop c.args.self.now.event (map kept_meant c.args.events.now)) (Piece c.args.len c.args.frame.key c.args.frame.form) (c.if-not-has_key_of.ensures.0 refl) (some_left c.args.self.now c.args.events.now c.requires.placed c.if-self-events.false)
    (tt, text_is c.args.self.now c.args.events.now c.requires.placed ∙ c.in_default.ensures)

pub returns-then-is_too_long : goal.returns-then-is_too_long
returns-then-is_too_long g c =
    let longer : c.in-Some.text_len < c.args.self.now.held + c.args.len = c.if-is_too_long.ensures.0 refl in
    piece_too_long c.args.role c.args.limits c.args.self.now.pieces c.args.self.now.held (drop c.args.self.now.event (map kept_meant c.args.events.now)) c.args.len c.args.frame.key c.args.frame.form (c.if-not-has_key_of.ensures.0 refl) (some_left c.args.self.now c.args.events.now c.requires.placed c.if-self-events.false) c.in-Some.ensures.0 (text_is c.args.self.now c.args.events.now c.requires.placed ∙ c.in-Some.ensures.1) (omega (arith, c.in-Some.ensures.2, longer))

pub returns-then-is_one_too_many : goal.returns-then-is_one_too_many
returns-then-is_one_too_many g c =
    let is_within : c.args.self.now.held + c.args.len ≤ c.in-Some.text_len = within_or_not _ _ (λ longer. true≢false (sym (c.if-is_too_long.ensures.1 longer))) in
    one_too_many c.args.role c.args.limits c.args.self.now.pieces c.args.self.now.held (drop c.args.self.now.event (map kept_meant c.args.events.now)) c.args.len c.args.frame.key c.args.frame.form (c.if-not-has_key_of.ensures.0 refl) (some_left c.args.self.now c.args.events.now c.requires.placed c.if-self-events.false) c.in-Some.ensures.0 (text_is c.args.self.now c.args.events.now c.requires.placed ∙ c.in-Some.ensures.1) (omega (arith, c.in-Some.ensures.2, is_within)) (c.if-is_one_too_many.ensures.0 refl)

pub returns-then-not-is_allowed_form : goal.returns-then-not-is_allowed_form
returns-then-not-is_allowed_form g c =
    let is_within : c.args.self.now.held + c.args.len ≤ c.in-Some.text_len = within_or_not _ _ (λ longer. true≢false (sym (c.if-is_too_long.ensures.1 longer))) in
    piece_wrong_form c.args.role c.args.limits c.args.self.now.pieces c.args.self.now.held (drop c.args.self.now.event (map kept_meant c.args.events.now)) c.args.len c.args.frame.key c.args.frame.form (c.if-not-has_key_of.ensures.0 refl) (some_left c.args.self.now c.args.events.now c.requires.placed c.if-self-events.false) c.in-Some.ensures.0 (text_is c.args.self.now c.args.events.now c.requires.placed ∙ c.in-Some.ensures.1) (omega (arith, c.in-Some.ensures.2, is_within)) (λ many. true≢false (sym (c.if-is_one_too_many.ensures.1 many)))
    (λ allowed. true≢false (sym (c.if-not-is_allowed_form.ensures.1 (rw c.lengths.ensures allowed))))

pub returns : goal.returns
returns g c =
    let is_within : c.args.self.now.held + c.args.len ≤ c.in-Some.text_len = within_or_not _ _ (λ longer. true≢false (sym (c.if-is_too_long.ensures.1 longer))) in
    piece_passes c.args.role c.args.limits c.args.self.now.pieces c.args.self.now.held (drop c.args.self.now.event (map kept_meant c.args.events.now)) c.args.len c.args.frame.key c.args.frame.form (c.if-not-has_key_of.ensures.0 refl) (some_left c.args.self.now c.args.events.now c.requires.placed c.if-self-events.false) c.in-Some.ensures.0 (text_is c.args.self.now c.args.events.now c.requires.placed ∙ c.in-Some.ensures.1) (omega (arith, c.in-Some.ensures.2, is_within)) (λ many. true≢false (sym (c.if-is_one_too_many.ensures.1 many)))
    (rw (← c.lengths.ensures) (c.if-not-is_allowed_form.ensures.0 refl))
