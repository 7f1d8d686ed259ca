use Rattle.std.proofs.Common.{◌≡◌, ℕ, ◌-◌, Some, [], ◌∷◌, ◌++◌, length, sym, ap, ◌∙◌, subst, length-append, arith}
use Rattle.wsn_rules.specs.Group.{unfinished, kind_of, payload_of}
use Rattle.wsn_rules.specs.Meaning.{Message, Control}
use Rattle.wsn_rules.specs.ShownStream.{open_item, open_items, frame_so_far}
use Rattle.wsn_rules.specs.ShownStream.Item.{Unfinished}
use Rattle.wsn_show.specs.StreamParts.{KeepsMessage}
use Rattle.wsn_show.specs.ShownItems.{Prints}
use Rattle.wsn_show.proofs.HeldItems.{represents_control, represents_joined, control_held}
use Rattle.wsn_show.proofs.KeptParts.{part_of_data}
use Rattle.wsn_show.proofs.TextsSoFar.{text_payload}
use Rattle.wsn_show.proofs.PrintedItems.{prints_both}
use Rattle.wsn_show.proofs.PrintedParts.{part_of_control_is, part_of_data_is}
use Rattle.wsn_show.proofs.stream_parts.StreamParts.put_part.Goals as goal

pub returns-then-is_control : goal.returns-then-is_control
returns-then-is_control g c role limits fs part rest lawful small sound kept =
    let context = c.args.context.now in
    let own = c.args.self.now in
    let head = c.args.head.now in
    let control = sym c.is_control.ensures ∙ c.if-is_control.true in
    let event = Control head.op part in
    let last = kept.frame.last in
    let held = control_held own.last part c.control.result.held.now last (sound.1 control) c.control.ensures.held in
    let represents = represents_control context.style.view c.control.result head.op part control c.control.ensures.op (c.control.ensures.bytes ∙ last.count) held in
    let lacks : head.len - length part ≡ c.saturating_sub.result = ap (λ (m : ℕ). head.len - m) (sym (c.end.ensures.bytes ∙ kept.frame.last.count)) ∙ sym c.saturating_sub.ensures in
    let is : Unfinished head.offset event 1 (Some (head.len - length part)) ≡ Unfinished own.offset event c.control.result.frames (Some c.saturating_sub.result) =
    ap (λ (m : ℕ). Unfinished m event 1 (Some (head.len - length part))) (sound.0 ∙ sym kept.frame.offset)
    ∙ ap (λ (m : ℕ). Unfinished own.offset event m (Some (head.len - length part))) (sym c.control.ensures.frames)
    ∙ ap (λ (m : ℕ). Unfinished own.offset event c.control.result.frames (Some m)) lacks in
    subst (Prints context c.args.output.now c.put_item.new.output) (sym (part_of_control_is fs head part control))
    (prints_both context c.args.output.now c.put_open.new.output c.put_item.new.output (open_items fs (Some 0)) (Unfinished head.offset event 1 (Some (head.len - length part)) ∷ [])
    (c.put_open.ensures role limits fs _ lawful kept.message)
    (c.put_item.ensures (Unfinished head.offset event 1 (Some (head.len - length part))) (event, represents, tt, is)))

pub returns-else-is_control : goal.returns-else-is_control
returns-else-is_control g c role limits fs part rest lawful small sound kept =
    let context = c.args.context.now in
    let message = c.args.self.now.message in
    let head = c.args.head.now in
    let other = sym c.is_control.ensures ∙ c.if-is_control.false in
    let f = frame_so_far head part in
    let group = unfinished fs ++ f ∷ [] in
    let event = Message (kind_of group) (payload_of group) in
    let keeps = subst (KeepsMessage context.style.view message fs) (part_of_data head part other) kept.message in
    let joined = kept.joined other in
    let represents = represents_joined context.style.view c.all_parts.result message fs f (sound.2 other) keeps joined c.all_parts.ensures.op c.all_parts.ensures.bytes c.all_parts.ensures.held in
    let frames = keeps.frames in
    let count : length group ≡ c.all_parts.result.frames = let own = c.all_parts.ensures.frames (omega (arith, frames, small)) in omega (arith, own, frames, length-append (unfinished fs) (f ∷ [])) in
    let lacks : head.len - length part ≡ c.saturating_sub.result = ap (λ (m : ℕ). head.len - m) (sym (c.end.ensures.bytes ∙ kept.frame.last.count)) ∙ sym c.saturating_sub.ensures in
    let is : open_item fs group (Some (head.len - length part)) ≡ Unfinished message.offset event c.all_parts.result.frames (Some c.saturating_sub.result) =
    ap (λ (m : ℕ). Unfinished m event (length group) (Some (head.len - length part))) (sym joined.offset)
    ∙ ap (λ (m : ℕ). Unfinished message.offset event m (Some (head.len - length part))) count
    ∙ ap (λ (m : ℕ). Unfinished message.offset event c.all_parts.result.frames (Some m)) lacks in
    subst (Prints context c.args.output.now c.put_item-else-is_control.new.output) (sym (part_of_data_is fs head part other))
    (c.put_item-else-is_control.ensures (open_item fs group (Some (head.len - length part))) (event, represents, text_payload group (sound.3 other), is))
