use Rattle.std.proofs.Common.{sym, subst}
use Rattle.wsn_scan.specs.Positions.{Position}
use Rattle.wsn_show.specs.StreamParts.{KeepsStream, IsSoundPart, items_left}
use Rattle.wsn_show.specs.ShownItems.{Prints}
use Rattle.wsn_show.proofs.PrintedParts.{in_frame_at, between_at}
use Rattle.wsn_show.proofs.stream_parts.StreamParts.put_left.Goals as goal

pub returns-in-Some : goal.returns-in-Some
returns-in-Some g c role limits fs at rest lawful small sound kept =
    let found = in_frame_at at c.in-Some.head c.args.self.now.head kept.frame.head c.in-Some.is in
    subst (λ (p : Position). Prints c.args.context.now c.args.output.now c.put_part.new.output (items_left fs p rest)) (sym found.1)
    (c.put_part.ensures role limits fs found.0 rest lawful small (subst (IsSoundPart fs) found.1 sound) (subst (λ (p : Position). KeepsStream c.args.context.now.style.view c.args.self.now fs p rest) found.1 kept))

pub returns-in-None : goal.returns-in-None
returns-in-None g c role limits fs at rest lawful small sound kept =
    let is = between_at at c.args.self.now.head kept.frame.head c.in-None.is in
    subst (λ (p : Position). Prints c.args.context.now c.args.output.now c.put_head.new.output (items_left fs p rest)) (sym is)
    (c.put_head.ensures role limits fs rest lawful (subst (λ (p : Position). KeepsStream c.args.context.now.style.view c.args.self.now fs p rest) is kept))
