use Rattle.std.proofs.Common.{◌++◌, ℕ, List, Option, Ok, ap, subst}
use Rattle.std.specs.Io.KnownBytes.{Consumes}
use Rattle.std.proofs.KnownBytes.{Consumes-trans}
use Rattle.wsn_scan.specs.ReadParts.{IsNextPart}
use Rattle.wsn_scan.proofs.ReaderReports.{reported_of}
use Rattle.wsn_hint.proofs.HeadsSent.{head_sent}
use Rattle.wsn_hint.proofs.sent_text.head_before.Goals as goal

pub returns-in-Some-clause-head : goal.returns-in-Some-clause-head
returns-in-Some-clause-head g c sent known =
    let loop = c.loop-part.invariant in
    let reads = c.in-Ok-None.ensures.next c.args.role c.args.limits loop.0 loop.1 loop.2 loop.3 in
    let next = subst (IsNextPart c.args.role c.args.limits c.next.new.input c.next.new.self c.next.new.part (loop.0 ++ reads.more) loop.1 loop.2) (ap Ok c.in-Ok-None.field-0-is) reads.next in
    let takes = next.0 in
    let came = loop.0 ++ reads.more in
    head_sent c.args.role c.args.limits sent came _ c.next.new.input.remaining takes.frames takes.position c.next.new.part.head
    (subst (λ (o : Option (List ℕ)). Consumes o c.next.new.input.remaining came) known (Consumes-trans c.args.side.now.remaining c.loop-part.side.remaining c.next.new.input.remaining loop.0 reads.more loop.4 reads.consumed.consumed))
    (reported_of c.args.role c.args.limits c.next.new.self came takes.frames takes.position takes.has_taken)
    (takes.is_part.goes_on.within c.in-Some.ensures.unfinished).1

pub returns-in-Some-clause-start : goal.returns-in-Some-clause-start
returns-in-Some-clause-start g c keyed = c.in-Some.ensures.start keyed

pub loop-part-preserved : goal.loop-part-preserved
loop-part-preserved g c =
    let loop = c.loop-part.invariant in
    let reads = c.in-Ok-None.ensures.next c.args.role c.args.limits loop.0 loop.1 loop.2 loop.3 in
    let next = subst (IsNextPart c.args.role c.args.limits c.next.new.input c.next.new.self c.next.new.part (loop.0 ++ reads.more) loop.1 loop.2) (ap Ok c.in-Ok-None.field-0-is) reads.next in
    let takes = next.0 in (
      loop.0 ++ reads.more,
      takes.frames,
      takes.position,
      takes.has_taken,
      Consumes-trans c.args.side.now.remaining c.loop-part.side.remaining c.next.new.input.remaining loop.0 reads.more loop.4 reads.consumed.consumed,
      next.1,
    )
