use Rattle.std.proofs.Common.{◌≡◌, false, true, [], ◌∷◌, ◌++◌, length, sym, ap, ◌∙◌, subst, length-append, arith}
use Rattle.wsn_wire.specs.Frame.{is_control, stream}
use Rattle.wsn_rules.specs.declared.head_info.HeadInfo.{HeadInfo}
use Rattle.wsn_rules.specs.Group.{unfinished}
use Rattle.wsn_rules.specs.Heads.{info_of}
use Rattle.wsn_rules.proofs.LawfulLists.{lawful_front}
use Rattle.wsn_show.specs.ShownItems.{Prints}
use Rattle.wsn_show.specs.StreamParts.{KeepsMessage}
use Rattle.wsn_show.proofs.HeldItems.{represents_control, represents_joined, control_held, control_short, kind_of_data}
use Rattle.wsn_show.proofs.KeptParts.{part_of_data}
use Rattle.wsn_show.proofs.PrintedItems.{prints_nothing}
use Rattle.wsn_show.proofs.PrintedParts.{control_event, message_event}
use Rattle.wsn_show.proofs.TakenParts.{end_is, no_end}
use Rattle.wsn_show.proofs.stream_parts.StreamParts.put_end.Goals as goal

pub returns-then-not-head : goal.returns-then-not-head
returns-then-not-head g c role limits fs f rest lawful is small kept =
    let more : f.fin ≡ false = sym (ap (λ (h : HeadInfo). h.fin) is) ∙ c.if-not-head.true in
    subst (Prints c.args.context.now c.args.output.now c.args.output.now) (sym (no_end c.args.context.now.style.detail fs f more)) (prints_nothing c.args.context.now c.args.output.now)

pub returns-then-is_control : goal.returns-then-is_control
returns-then-is_control g c role limits fs f rest lawful is small kept =
    let context = c.args.context.now in
    let op : c.args.head.now.op ≡ f.op = ap (λ (h : HeadInfo). h.op) is in
    let final : f.fin ≡ true = sym (ap (λ (h : HeadInfo). h.fin) is) ∙ c.if-not-head.false in
    let control : is_control f.op ≡ true = sym (ap is_control op) ∙ sym c.is_control.ensures ∙ c.if-is_control.true in
    let last = kept.frame.last in
    let held = control_held c.args.self.now.last f.payload c.control.result.held.now last (control_short role limits fs f lawful control) c.control.ensures.held in
    let represents = represents_control context.style.view c.control.result f.op f.payload control (c.control.ensures.op ∙ op) (c.control.ensures.bytes ∙ last.count) held in
    let event = control_event role limits fs f lawful context.style.view c.args.self.now.offset c.control.result control (c.control.ensures.op ∙ op) represents c.control.ensures.frames kept.frame.offset in
    subst (Prints context c.args.output.now c.put_event.new.output) (sym (end_is context.style.detail fs f final))
    (c.put_event.ensures role limits fs f _ (lawful_front role limits fs (f ∷ []) lawful) kept.message event)

pub returns-else-is_control : goal.returns-else-is_control
returns-else-is_control g c role limits fs f rest lawful is small kept =
    let context = c.args.context.now in
    let message = c.args.self.now.message in
    let op : c.args.head.now.op ≡ f.op = ap (λ (h : HeadInfo). h.op) is in
    let final : f.fin ≡ true = sym (ap (λ (h : HeadInfo). h.fin) is) ∙ c.if-not-head.false in
    let other : is_control f.op ≡ false = sym (ap is_control op) ∙ sym c.is_control.ensures ∙ c.if-is_control.false in
    let keeps = subst (KeepsMessage context.style.view message fs) (part_of_data (info_of (length (stream fs)) f) f.payload other) kept.message in
    let joined = kept.joined other in
    let shown = c.all_parts-event.result in
    let said = c.all_parts-event.ensures in
    let represents = represents_joined context.style.view shown message fs f (kind_of_data role limits fs f lawful other) keeps joined said.op said.bytes said.held in
    let frames = keeps.frames in
    let count : shown.frames ≡ length (unfinished fs ++ f ∷ []) = let own = said.frames (omega (arith, frames, small)) in omega (arith, own, frames, length-append (unfinished fs) (f ∷ [])) in
    let event = message_event role limits fs f lawful context.style.view message.offset shown other (said.op ∙ joined.op) represents count joined.offset in
    subst (Prints context c.args.output.now c.put_event-else-is_control.new.output) (sym (end_is context.style.detail fs f final))
    (c.put_event-else-is_control.ensures role limits fs f _ (lawful_front role limits fs (f ∷ []) lawful) kept.message event)
