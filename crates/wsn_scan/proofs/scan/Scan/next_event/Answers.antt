use Rattle.std.proofs.Common.{sym, arith}
use Rattle.wsn_frame.proofs.HeadsAtOnce.{front_one}
use Rattle.wsn_scan.proofs.scan.Scan.next_event.Goals as goal

pub next_event_after-requires-clause-first : goal.next_event_after-requires-clause-first
next_event_after-requires-clause-first c = sym (front_one c.args.chunk.now (omega (arith, c.if-chunk-lt-HEAD_MAX.false)))
