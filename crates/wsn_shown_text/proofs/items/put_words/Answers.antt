use Rattle.std.proofs.Common.{sym, subst}
use Rattle.wsn_io.specs.Stops.{IsWrittenOrStops}
use Rattle.wsn_rules.specs.ShownStream.{Item}
use Rattle.wsn_print.specs.ShownParts.{position_of}
use Rattle.wsn_shown_text.specs.declared.fields.Shape.TheVariants.{Line as words}
use Rattle.wsn_shown_text.specs.declared.items.ShownItem.{ShownItem}
use Rattle.wsn_shown_text.specs.EntryFormats.{item_in}
use Rattle.wsn_shown_text.specs.ShownItems.{IsItem}
use Rattle.wsn_shown_text.proofs.items.put_words.Goals as goal

pub returns-in-Frame : goal.returns-in-Frame
returns-in-Frame g c = λ shown held.
    let front = c.args.front.now in
    let item = subst (λ (i : ShownItem). IsItem c.args.view front.offset i shown) c.in-Frame.is held in
    subst (λ (i : Item). IsWrittenOrStops c.args.to.now c.put_frame_line.new.to (item_in words c.args.view front.role (position_of front.origin) i) c.put_frame_line.result) (sym item)
    (c.put_frame_line.ensures c.args.view)

pub returns-in_default : goal.returns-in_default
returns-in_default g c = λ shown held. c.put_item_in.ensures shown held
