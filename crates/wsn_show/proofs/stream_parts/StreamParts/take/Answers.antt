use Rattle.std.proofs.Common.{ℕ, List, sym, subst}
use Rattle.wsn_scan.specs.Positions.{Position}
use Rattle.wsn_show.specs.StreamParts.{KeepsStream}
use Rattle.wsn_scan.specs.FollowedScans.{IsTaken}
use Rattle.wsn_scan.proofs.FollowedScans.{begins_at, goes_on_at}
use Rattle.wsn_show.specs.TakenParts.{ShowsPart}
use Rattle.wsn_show.proofs.stream_parts.StreamParts.take.Goals as goal

pub returns-then-taken : goal.returns-then-taken
returns-then-taken g c role limits fs frames at position rest before share since size is_at t kept =
    let part = c.args.taken.now.part.now in
    let there = begins_at at part before is_at c.if-taken.true in
    subst (λ (p : Position). ShowsPart fs p frames position since c.take_first.new.self c.args.context.now c.args.output.now c.take_first.new.output) (sym there.0)
    (c.take_first.ensures role limits fs frames position rest share since size
    (subst (λ (bs : List ℕ). IsTaken role limits fs rest bs part c.args.taken.now.payload.now share frames position since) there.1 t)
    (subst (λ (p : Position). KeepsStream c.args.context.now.style.view c.args.self.now fs p rest) there.0 kept))

pub returns-else-taken : goal.returns-else-taken
returns-else-taken g c role limits fs frames at position rest before share since size is_at t kept =
    let there = goes_on_at at c.args.taken.now.part.now before is_at c.if-taken.false in
    subst (λ (p : Position). ShowsPart fs p frames position since c.take_more.new.self c.args.context.now c.args.output.now c.take_more.new.output) (sym there)
    (c.take_more.ensures role limits fs frames position rest before share since size t (subst (λ (p : Position). KeepsStream c.args.context.now.style.view c.args.self.now fs p rest) there kept))
