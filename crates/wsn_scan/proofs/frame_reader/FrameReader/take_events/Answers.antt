use Rattle.std.proofs.Common.{refl, arith}
use Rattle.wsn_scan.proofs.ReaderBuffers.{within_limit}
use Rattle.wsn_scan.proofs.ReaderEvents.{takes_run}
use Rattle.wsn_scan.proofs.frame_reader.FrameReader.take_events.Goals as goal

pub returns-clause-taken : goal.returns-clause-taken
returns-clause-taken c is role limits came fs at h =
    let e = c.events_in-count.ensures in
    let took = e.taken (omega (arith, c.if-count-eq0.false)) in
    takes_run role limits c.args.self.now _ c.events_in-count.result came fs at h
    (record { idle = took.0; takes = took.1; reported = e.reported; kept = e.kept; from_is = refl; at_is = refl; end_is = refl; chunks_is = refl })

pub events_in-count-requires-clause-fits : goal.events_in-count-requires-clause-fits
events_in-count-requires-clause-fits c =
    let b = c.requires in
    let h = b.has_taken in
    let ordered = c.args.self.now.left in
    omega (arith, within_limit b.limits c.args.self.now b.came h.scanned h.buffered, h.has_scanned.has_consumed.room, ordered)
