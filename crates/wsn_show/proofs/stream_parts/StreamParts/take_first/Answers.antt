use Rattle.std.proofs.Common.{[], ◌∷◌, ◌++◌, sym, subst, arith}
use Rattle.wsn_rules.proofs.LawfulLists.{lawful_front}
use Rattle.wsn_scan.specs.Positions.{BetweenFrames}
use Rattle.wsn_show.specs.ShownItems.{Prints}
use Rattle.wsn_show.proofs.TakenParts.{alone_final, alone_event, alone_kept, end_is, ends, shows_first}
use Rattle.wsn_show.proofs.stream_parts.StreamParts.take_first.Goals as goal

pub returns-then-is_event : goal.returns-then-is_event
returns-then-is_event g c role limits fs frames position rest share since size t kept =
    let context = c.args.context.now in
    let part = c.args.taken.now.part.now in
    let payload = c.args.taken.now.payload.now in
    let message = c.args.self.now.message in
    let mid = c.put_begun.new.output in
    let new = c.put_event.new.output in
    let e = ends role limits fs rest [] part payload share frames position since t c.if-part.true in
    let f = e.frame in
    let alone = c.is_event.ensures c.if-is_event.true in
    let said = c.whole_event-event.ensures in
    let shown = alone_event role limits fs f part.head payload e.is context.style.view message alone kept.message c.whole_event-event.result said.op said.bytes said.held said.frames in
    let event = c.put_event.ensures role limits fs f [] (lawful_front role limits fs (f ∷ []) e.is.lawful) kept.message shown in
    let whole = e.size in
    let keeps = c.next.ensures context.style.view fs (fs ++ f ∷ []) BetweenFrames rest (omega (arith, whole, size)) e.small kept.frame (alone_kept role limits fs f part.head payload e.is context.style.view message alone kept.message) in
    shows_first fs part.head frames position since c.next.new.self context c.args.output.now mid new c.put_begun.ensures
    (e.shows c.next.new.self context mid new keeps (subst (Prints context mid new) (sym (end_is context.style.detail fs f (alone_final role limits fs f part.head payload e.is message alone))) event))

pub returns-else-part : goal.returns-else-part
returns-else-part g c role limits fs frames position rest share since size t kept =
    shows_first fs c.args.taken.now.part.now.head frames position since c.take_more.new.self c.args.context.now c.args.output.now c.put_begun.new.output c.take_more.new.output c.put_begun.ensures
    (c.take_more.ensures role limits fs frames position rest [] share since size t (c.begin.ensures c.args.context.now.style.view fs rest kept))
