use Rattle.std.proofs.Common.{◌≡◌, ◌-◌, ◌≤◌, length, drop}
use Rattle.wsn_wire.specs.Frame.{IsBytes}
use Rattle.wsn_scan.specs.EventFrames.{TakesEvents, IsIdle}
use Rattle.wsn_scan.proofs.EventRuns.{after_frames}
use Rattle.wsn_scan.proofs.scan.Scan.take_events.Given as goal

-- The frames so far are consumed, with their events' normal form in their place, and the rest of the chunk is unchanged.
abbrev pub invariant-loop-frame : goal.invariant-loop-frame
invariant-loop-frame l = record {
  in_bytes : IsBytes l.fn.chunk;
  idle : IsIdle l.fn.self;
  within : l.at ≤ length l.fn.chunk;
  size : length l.chunk ≡ length l.fn.chunk;
  kept : drop l.at l.chunk ≡ drop l.at l.fn.chunk;
  takes : TakesEvents l.fn.self (after_frames l.fn.self l.at l.counts) l.fn.chunk l.chunk l.at;
}

abbrev pub decreases-loop-frame : goal.decreases-loop-frame
decreases-loop-frame l = length l.initial.chunk - l.at
