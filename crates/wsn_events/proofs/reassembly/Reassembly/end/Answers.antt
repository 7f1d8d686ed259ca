use Rattle.std.proofs.Common.{◌≡◌, ℕ, List, true, false, ◌∙◌, ap, rules}
use Rattle.wsn_wire.specs.Frame.{is_control}
use Rattle.wsn_rules.specs.Meaning.{Message, Control}
use Rattle.wsn_events.proofs.ReassembledFrames.{fragment, placed, message_event, message_ended, control, control_event}
use Rattle.wsn_events.proofs.reassembly.Reassembly.end.Goals as goal

pub returns-then-not-final_frame : goal.returns-then-not-final_frame
returns-then-not-final_frame g c role limits done f is lawful within =
    let more : f.fin ≡ false = cc in
    (more, fragment role limits c.args.self.now done f lawful within more, placed role limits c.args.self.now done f lawful within)

pub returns : goal.returns
returns g c role limits done f is lawful within =
    let final : f.fin ≡ true = cc in
    let other : is_control f.op ≡ false = cc in
    let text = ap (λ (v : _). v.items) c.replace-message.ensures.value in
    let nothing = ap (λ (v : _). v.items) c.replace-message.ensures.after ∙ c.new-next.ensures.items in (
      (final, ap (λ (bs : List ℕ). Message c.args.self.now.kind bs) text ∙ message_event role limits c.args.self.now done f lawful within other),
      message_ended (record { op = c.args.self.now.op; frame_offset = c.args.self.now.frame_offset; kind = c.args.self.now.kind; message = c.replace-message.new.dest; start = c.args.self.now.start; frames = c.args.self.now.frames; body = c.args.self.now.body }) done f other final nothing,
      record { offset = (placed role limits c.args.self.now done f lawful within).offset; count = (placed role limits c.args.self.now done f lawful within).count },
    )

pub returns-then-is_control : goal.returns-then-is_control
returns-then-is_control g c role limits done f is lawful within =
    let final : f.fin ≡ true = cc in
    let own : is_control f.op ≡ true = cc in
    let at = placed role limits c.args.self.now done f lawful within in
    let between = control role limits c.args.self.now done f lawful within own in (
      (final, c.control.ensures ∙ ap (λ (b : _). Control c.args.self.now.op b.items) c.replace-body.ensures.value ∙ control_event role limits c.args.self.now done f lawful within own),
      record { message = between.message; kind = between.kind; begun = λ some. record { offset_is = (between.begun some).offset_is; count_is = (between.begun some).count_is } },
      record { offset = at.offset; count = at.count },
    )

pub new-requires : goal.new-requires
new-requires g c = search rules

pub control-requires : goal.control-requires
control-requires g c = search rules
