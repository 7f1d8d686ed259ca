use Rattle.std.proofs.Common.{◌++◌, subst, arith, length-append}
use Rattle.wsn_scan.specs.Positions.{Position}
use Rattle.wsn_show.specs.StreamParts.{KeepsStream}
use Rattle.wsn_show.proofs.TakenParts.{ends, within}
use Rattle.wsn_show.proofs.stream_parts.StreamParts.take_more.Goals as goal

pub returns-then-part : goal.returns-then-part
returns-then-part g c role limits fs frames position rest before share since size t kept =
    let part = c.args.taken.now.part.now in
    let small = t.small in
    let in_all = c.add_payload.ensures c.args.context.now.style.view fs before rest share size (omega (arith, small, size)) t.few_bytes kept in
    let e = ends role limits fs rest before part c.args.taken.now.payload.now share frames position since t c.if-part.true in
    let there = subst (λ (p : Position). KeepsStream c.args.context.now.style.view c.add_payload.new.self fs p (rest ++ share)) e.position_is in_all in
    let whole = e.size in
    e.shows c.end.new.self c.args.context.now c.args.output.now c.put_end.new.output
    (c.end.ensures c.args.context.now.style.view fs e.frame (rest ++ share) e.is.head_is (omega (arith, whole, length-append rest share)) e.small t.few_frames there)
    (c.put_end.ensures role limits fs e.frame (rest ++ share) e.is.lawful e.is.head_is t.few_frames there)

pub returns-else-part : goal.returns-else-part
returns-else-part g c role limits fs frames position rest before share since size t kept =
    let small = t.small in
    within role limits fs rest before c.args.taken.now.part.now c.args.taken.now.payload.now share frames position since t c.if-part.false c.add_payload.new.self c.args.context.now c.args.output.now
    (c.add_payload.ensures c.args.context.now.style.view fs before rest share size (omega (arith, small, size)) t.few_bytes kept)
