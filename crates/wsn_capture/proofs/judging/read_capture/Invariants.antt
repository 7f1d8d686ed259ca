use Rattle.std.proofs.Common.{◌≡◌, ◌≤◌, ◌<◌, false, length}
use Rattle.wsn_capture.specs.CaptureLines.{count_of}
use Rattle.wsn_capture.specs.LineSplitters.{bytes_ahead}
use Rattle.wsn_capture.proofs.JudgedCaptures.{HasRead}
use Rattle.wsn_capture.proofs.judging.read_capture.Given as goal

-- all bytes that came are consumed, and no read has failed
abbrev pub invariant-loop-count : goal.invariant-loop-count
invariant-loop-count g l = record {
  read : HasRead l.fn.limits l.fn.input l.input l.lines;
  unfailed : l.input.failed ≡ false;
  few : count_of l.lines.capture.lines ≤ 1000000;
  short : length l.lines.begun < 8196;
  size : length l.chunk ≡ 4096;
}

abbrev pub decreases-loop-count : goal.decreases-loop-count
decreases-loop-count g l = bytes_ahead l.lines.capture.lines l.lines.begun
