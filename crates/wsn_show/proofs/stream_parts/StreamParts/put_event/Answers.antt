use Rattle.std.proofs.Common.{◌≡◌, Bool, Some, [], ◌∷◌, sym, subst, if◌then◌else◌}
use Rattle.wsn_rules.specs.declared.detail.Detail.{Detail}
use Rattle.wsn_rules.specs.Meaning.{event_at}
use Rattle.wsn_rules.specs.Summary.{is_close}
use Rattle.wsn_rules.specs.ShownStream.{Item, open_items, event_offset, event_frames}
use Rattle.wsn_rules.specs.ShownStream.Item.{Event}
use Rattle.wsn_show.specs.ShownItems.{Prints, items_of_ended}
use Rattle.wsn_show.proofs.PrintedItems.{prints_both, prints_nothing}
use Rattle.wsn_show.proofs.stream_parts.StreamParts.put_event.Goals as goal

pub returns-in-Events : goal.returns-in-Events
returns-in-Events g c role limits fs f part lawful kept e =
    let context = c.args.context.now in
    let old = c.args.output.now in
    let mid = c.put_before_close.new.output in
    let item : Item = Event (event_offset fs f) (event_at fs f) (event_frames fs f) in
    let first = subst (λ (close : Bool). Prints context old mid (if close then open_items fs (Some 0) else [])) e.close (c.put_before_close.ensures role limits fs part lawful kept) in
    let is : item ≡ Event c.args.offset (event_at fs f) c.args.event.now.frames = λ i. Event (sym e.offset_is i) (event_at fs f) (sym e.frames i) in
    let second = c.put_item.ensures item (event_at fs f, e.represents, e.text, is) in
    subst (λ (d : Detail). Prints context old c.put_item.new.output (items_of_ended d fs f)) (sym c.in-Events.is)
    (prints_both context old mid c.put_item.new.output (if is_close f.op then open_items fs (Some 0) else []) (item ∷ []) first second)

pub returns-in-Frames : goal.returns-in-Frames
returns-in-Frames g c role limits fs f part lawful kept e =
    subst (λ (d : Detail). Prints c.args.context.now c.args.output.now c.args.output.now (items_of_ended d fs f)) (sym c.in-Frames.is) (prints_nothing c.args.context.now c.args.output.now)
