use Rattle.std.proofs.Common.{refl, sym, subst}
use Rattle.wsn_rules.specs.declared.detail.Detail.{Detail}
use Rattle.wsn_rules.specs.ShownStream.Item.{Head}
use Rattle.wsn_show.specs.ShownItems.{Prints, items_of_begun}
use Rattle.wsn_show.proofs.PrintedItems.{prints_nothing}
use Rattle.wsn_show.proofs.shown_item.put_begun.Goals as goal

pub returns-in-Events : goal.returns-in-Events
returns-in-Events g c =
    subst (λ (d : Detail). Prints c.args.context.now c.args.output.now c.args.output.now (items_of_begun d c.args.head.now)) (sym c.in-Events.is)
    (prints_nothing c.args.context.now c.args.output.now)

pub returns-in-Frames : goal.returns-in-Frames
returns-in-Frames g c =
    subst (λ (d : Detail). Prints c.args.context.now c.args.output.now c.put_item.new.output (items_of_begun d c.args.head.now)) (sym c.in-Frames.is)
    (c.put_item.ensures (Head c.args.head.now) refl)
