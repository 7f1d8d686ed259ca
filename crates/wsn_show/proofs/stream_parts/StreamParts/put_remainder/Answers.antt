use Rattle.std.proofs.Common.{ℕ, ◌/◌, ◌≤◌, min, refl, sym, subst, arith}
use Rattle.wsn_print.specs.ShownParts.{IsFrontOf, item_of_remainder}
use Rattle.wsn_show.specs.ShownItems.{Prints}
use Rattle.wsn_show.proofs.HeldItems.{front_of_bytes}
use Rattle.wsn_show.proofs.ItemViews.{remainder_view}
use Rattle.wsn_show.proofs.PrintedItems.{prints_nothing}
use Rattle.wsn_show.proofs.PrintedParts.{bytes_none, bytes_some}
use Rattle.wsn_show.proofs.stream_parts.StreamParts.put_remainder.Goals as goal

pub returns-then-count-gt0 : goal.returns-then-count-gt0
returns-then-count-gt0 g c all has =
    let first = c.args.self.now.rest in
    let count = has.count in
    let own = c.count.ensures in
    let n = c.args.context.now.style.view in
    let few : min n 4096 ≤ 4096 = omega arith in
    let front = front_of_bytes (min n 4096) all first c.front.result few has c.front.ensures.bytes c.front.ensures.held in
    let view = remainder_view n c.args.which c.args.offset all in
    subst (Prints c.args.context.now c.args.output.now c.put_item.new.output) (sym (bytes_some (item_of_remainder c.args.which) c.args.offset all (omega (arith, count, own, c.if-count-gt0.true))))
    (c.put_item.ensures (item_of_remainder c.args.which c.args.offset all) (all, subst (λ (m : ℕ). IsFrontOf (m / 2) all c.front.result) (sym view) front, refl))

pub returns-else-count-gt0 : goal.returns-else-count-gt0
returns-else-count-gt0 g c all has =
    let count = has.count in
    let own = c.count.ensures in
    subst (Prints c.args.context.now c.args.output.now c.args.output.now) (sym (bytes_none (item_of_remainder c.args.which) c.args.offset all (omega (arith, count, own, c.if-count-gt0.false)))) (prints_nothing c.args.context.now c.args.output.now)
