use Rattle.std.proofs.Common.{sym, arith}
use Rattle.wsn_frame.proofs.HeadsAtOnce.{front_one}
use Rattle.wsn_scan.proofs.scan.events.take_event.Goals as goal

pub take_event_after-requires-clause-first : goal.take_event_after-requires-clause-first
take_event_after-requires-clause-first c = sym (front_one c.args.chunk.now (omega (arith, c.if-chunk-lt-HEAD_MAX.false)))
