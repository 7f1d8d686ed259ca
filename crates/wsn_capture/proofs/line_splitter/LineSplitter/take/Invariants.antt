use Rattle.std.proofs.Common.{◌≤◌, ◌<◌, ◌+◌, ◌-◌, ℕ, List, ◌++◌, length, take}
use Rattle.wsn_rules.specs.Limits.{Limits}
use Rattle.wsn_capture.specs.CaptureLines.{count_of}
use Rattle.wsn_capture.specs.LineSplitters.{HasSplit, bytes_ahead}
use Rattle.wsn_capture.proofs.line_splitter.LineSplitter.take.Given as goal

-- a prefix of the chunk is consumed
abbrev pub invariant-loop-taken : goal.invariant-loop-taken
invariant-loop-taken l = record {
  within : l.taken ≤ length l.chunk;
  few : count_of l.self.capture.lines ≤ 1000000;
  short : length l.self.begun < 8196;
  split : (limits : Limits) (came : List ℕ) → HasSplit limits l.fn.self came → HasSplit limits l.self (came ++ take l.taken l.chunk);
  left : bytes_ahead l.self.capture.lines l.self.begun + l.taken ≤ bytes_ahead l.fn.self.capture.lines l.fn.self.begun;
}

abbrev pub decreases-loop-taken : goal.decreases-loop-taken
decreases-loop-taken l = length l.chunk - l.taken
