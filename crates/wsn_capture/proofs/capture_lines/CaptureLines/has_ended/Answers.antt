use Rattle.std.proofs.Common.{ap, ◌∙◌}
use Rattle.wsn_capture.specs.SideTexts.{ended_before}
use Rattle.wsn_capture.proofs.SideEntries.{ended_lines_giving}
use Rattle.wsn_capture.proofs.capture_lines.CaptureLines.has_ended.Goals as goal

pub returns : goal.returns
returns c = λ limits lines given has.
    c.has_ended.ensures ∙ ap (ended_before c.args.role) has.before ∙ ended_lines_giving c.args.role given
