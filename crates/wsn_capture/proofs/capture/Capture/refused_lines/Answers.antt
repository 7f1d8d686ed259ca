use Rattle.std.proofs.Common.{sym, subst}
use Rattle.wsn_capture.specs.Captures.{Captured}
use Rattle.wsn_capture.specs.CaptureLines.{HasNotedCloses}
use Rattle.wsn_capture.proofs.capture.Capture.refused_lines.Goals as goal

pub returns : goal.returns
returns c = λ limits lines has.
    c.refused_lines.ensures limits has.entries (subst (λ (s : Captured). HasNotedCloses limits s.lines has.entries) (sym c.self.view_is) has.noted)
