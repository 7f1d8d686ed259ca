use Rattle.std.proofs.Common.{rules}
use Rattle.wsn_show.proofs.capture_view.CaptureView.refused_lines.Goals as goal

pub returns : goal.returns
returns c = search rules
