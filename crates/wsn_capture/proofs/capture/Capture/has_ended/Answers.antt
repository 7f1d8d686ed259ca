use Rattle.std.proofs.Common.{sym, subst}
use Rattle.wsn_capture.specs.Captures.{Captured}
use Rattle.wsn_capture.specs.CaptureLines.{HasAccepted}
use Rattle.wsn_capture.proofs.capture.Capture.has_ended.Goals as goal

pub returns : goal.returns
returns c = λ limits lines has.
    c.has_ended.ensures limits lines has.entries (subst (λ (s : Captured). HasAccepted limits s.lines lines has.entries) (sym c.self.view_is) has.accepted)
