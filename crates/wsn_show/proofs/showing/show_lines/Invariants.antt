use Rattle.std.proofs.Common.{◌≡◌, ◌≤◌, ◌<◌, ◌+◌, ◌-◌, ◌++◌, ℕ, List, false, length, take}
use Rattle.wsn_io.specs.Transfer.{Outgoing}
use Rattle.wsn_rules.specs.Limits.{Limits}
use Rattle.wsn_capture.specs.CaptureLines.{count_of}
use Rattle.wsn_print.specs.declared.style.Style.{Style}
use Rattle.wsn_capture.specs.LineSplitters.{bytes_ahead}
use Rattle.wsn_show.specs.PassedLines.{HasPrinted, IsPrinting}
use Rattle.wsn_show.proofs.showing.show_lines.Given as goal

-- the bytes before `taken` were shown
abbrev pub invariant-loop-taken : goal.invariant-loop-taken
invariant-loop-taken g l = record {
  within : l.taken ≤ length l.chunk;
  printing : IsPrinting l.view l.lines l.output;
  few : count_of l.view.lines ≤ 1000000;
  short : length l.lines < 8196;
  writable : l.output.failed ≡ false;
  printed : (limits : Limits) (style : Style) (first : Outgoing) (came : List ℕ) → HasPrinted limits style first l.fn.view l.fn.lines l.fn.output came
      → HasPrinted limits style first l.view l.lines l.output (came ++ take l.taken l.chunk);
  left : bytes_ahead l.view.lines l.lines + l.taken ≤ bytes_ahead l.fn.view.lines l.fn.lines;
}

abbrev pub decreases-loop-taken : goal.decreases-loop-taken
decreases-loop-taken g l = length l.chunk - l.taken
