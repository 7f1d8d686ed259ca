use Rattle.std.proofs.Common.{◌≡◌, ◌+◌, refl, arith, rules}
use Rattle.std.proofs.lemmas.Grind.{elements}
use Rattle.wsn_scan.specs.declared.part.Taken.TheVariants as taken
use Rattle.wsn_scan.proofs.ReaderBuffers.{within_limit}
use Rattle.wsn_scan.proofs.ReaderSteps.{steps}
use Rattle.wsn_scan.proofs.frame_reader.FrameReader.step.Goals as goal
use Rattle.wsn_scan.proofs.frame_reader.FrameReader.step.Goals.{in-Part, in_default}

pub returns-clause-taken : goal.returns-clause-taken
returns-clause-taken c role limits came fs at h =
    let e = c.part_in-taken.ensures in
    let old = c.args.self.now in
    let from_is : c.part_in-taken.result.1 ≡ taken.Part → c.match-found.self ≡ old.at + c.part_in-taken.new.part.start =
    λ is. elim c.match-found.branch [ in-Part w ↦ w.self-is | in_default w ↦ absurd (w.in_default.not-Part is) ] in
    steps role limits old _ c.part_in-taken.new.part c.part_in-taken.result.0 came fs at h c.part_in-taken.result.1
    (record { in_bytes = e.in_bytes; advances = e.taken; kept = e.kept; room = e.room; reported = e.reported; start = e.start; from_is = from_is; at_is = refl; end_is = refl; chunks_is = refl; whole = e.whole })

pub part_in-taken-requires-clause-fits : goal.part_in-taken-requires-clause-fits
part_in-taken-requires-clause-fits c =
    let b = c.requires.begun in
    let h = b.has_taken in
    let ordered = c.args.self.now.left in
    omega (arith, within_limit b.limits c.args.self.now b.came h.scanned h.buffered, h.has_scanned.has_consumed.room, ordered)

pub returns-then-self-clause-taken : goal.returns-then-self-clause-taken
returns-then-self-clause-taken c = search rules

pub returns-clause-falls : goal.returns-clause-falls
returns-clause-falls c = grind (arith, elements)
