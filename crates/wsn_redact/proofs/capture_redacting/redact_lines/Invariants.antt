use Rattle.std.proofs.Common.{◌≡◌, ◌≤◌, ◌<◌, ◌+◌, ◌-◌, ◌++◌, ℕ, List, false, length, take}
use Rattle.wsn_io.specs.Transfer.{Outgoing}
use Rattle.wsn_rules.specs.Limits.{Limits}
use Rattle.wsn_capture.specs.CaptureLines.{count_of}
use Rattle.wsn_capture.specs.LineSplitters.{bytes_ahead}
use Rattle.wsn_redact.specs.PassedRedactions.{HasWritten, IsWritingLines}
use Rattle.wsn_redact.proofs.capture_redacting.redact_lines.Given as goal

-- the bytes before `taken` were redacted
abbrev pub invariant-loop-taken : goal.invariant-loop-taken
invariant-loop-taken g l = record {
  within : l.taken ≤ length l.chunk;
  writing : IsWritingLines l.redactor l.lines l.output;
  few : count_of l.redactor.lines ≤ 1000000;
  short : length l.lines < 8196;
  writable : l.output.failed ≡ false;
  written : (limits : Limits) (first : Outgoing) (came : List ℕ) → HasWritten limits first l.fn.redactor l.fn.lines l.fn.output came
      → HasWritten limits first l.redactor l.lines l.output (came ++ take l.taken l.chunk);
  left : bytes_ahead l.redactor.lines l.lines + l.taken ≤ bytes_ahead l.fn.redactor.lines l.fn.lines;
}

abbrev pub decreases-loop-taken : goal.decreases-loop-taken
decreases-loop-taken g l = length l.chunk - l.taken
