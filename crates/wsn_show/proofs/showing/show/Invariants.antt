use Rattle.std.proofs.Common.{◌≡◌, ◌≤◌, ◌<◌, false, length}
use Rattle.wsn_capture.specs.CaptureLines.{count_of}
use Rattle.wsn_capture.specs.LineSplitters.{bytes_ahead}
use Rattle.wsn_show.proofs.ShownInputs.{HasReadOn}
use Rattle.wsn_show.proofs.showing.show.Given as goal

-- all bytes that came are shown, and no read and no write has failed
abbrev pub invariant-loop-count : goal.invariant-loop-count
invariant-loop-count g l = record {
  read : HasReadOn l.fn.limits l.fn.style l.fn.input l.input l.fn.output l.capture l.lines l.output;
  unfailed : l.input.failed ≡ false;
  writable : l.output.failed ≡ false;
  few : count_of l.capture.lines ≤ 1000000;
  short : length l.lines < 8196;
  size : length l.chunk ≡ 4096;
}

abbrev pub decreases-loop-count : goal.decreases-loop-count
decreases-loop-count g l = bytes_ahead l.capture.lines l.lines
