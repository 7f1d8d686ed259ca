-- What the open message says of the next frame's opcode.
use Rattle.std.proofs.Common.{◌≡◌, ◌≤◌, ◌⊎◌, Some, refl, sym, ap, ◌∙◌, subst}
use Rattle.std.proofs.lemmas.Bool.{false≢true}
use Rattle.wsn_wire.specs.Frame.{opcode}
use Rattle.wsn_frame.specs.KeptMessages.{IsOpenMessage}
use Rattle.wsn_rules.proofs.FrameBegins.{opcode_of_begins, control_not_data, nothing_to_continue, begins_message, message_is_open, too_many_frames, goes_on, control_between}
use Rattle.wsn_frame.proofs.message_law.FrameContext.misplaced.Goals as goal
use Rattle.wsn_rules.proofs.MessageText.{continue_from_opcode}

pub returns-in-Continue : goal.returns-in-Continue
returns-in-Continue c group first is_open is alone =
    nothing_to_continue c.args.self.now.limits group first alone (subst (λ o. IsOpenMessage o group) c.in-None.is is_open) (is ∙ ap opcode c.in-Continue.is)

pub returns-in_default : goal.returns-in_default
returns-in_default c group first is_open is alone =
    begins_message c.args.self.now.limits group first alone (subst (λ o. IsOpenMessage o group) c.in-None.is is_open) (λ zero. c.in_default.not-Continue (continue_from_opcode c.args.op (sym is ∙ zero)))

pub returns-in-Text : goal.returns-in-Text
returns-in-Text c group first is_open is alone =
    let keeps = subst (λ o. IsOpenMessage o group) c.in-Some.is is_open in
    message_is_open c.args.self.now.limits group first alone keeps.some (subst (λ n. (n ≡ 1) ⊎ (n ≡ 2)) (sym is) (opcode_of_begins c.args.op c.in-Text.is))

pub returns-then-has_all_frames : goal.returns-then-has_all_frames
returns-then-has_all_frames c group first is_open is alone =
    let keeps = subst (λ o. IsOpenMessage o group) c.in-Some.is is_open in
    too_many_frames c.args.self.now.limits group first alone keeps.some (is ∙ ap opcode c.in-Continue-op.is) (c.if-has_all_frames.ensures.0 refl ∙ ap (λ n. Some n) keeps.frames)

pub returns-else-has_all_frames : goal.returns-else-has_all_frames
returns-else-has_all_frames c group first is_open is alone =
    let keeps = subst (λ o. IsOpenMessage o group) c.in-Some.is is_open in
    goes_on c.args.self.now.limits group first alone keeps.some (is ∙ ap opcode c.in-Continue-op.is)
    (λ all. false≢true (c.if-has_all_frames.ensures.1 (all ∙ ap (λ n. Some n) (sym keeps.frames))))

pub returns-in-Close : goal.returns-in-Close
returns-in-Close c group first is_open is alone =
    control_between c.args.self.now.limits group first alone (subst (λ n. 3 ≤ n) (sym is) (control_not_data c.args.op c.in-Close.is))
