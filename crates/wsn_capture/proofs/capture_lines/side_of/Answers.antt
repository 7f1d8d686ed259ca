use Rattle.std.proofs.Common.{rules}
use Rattle.wsn_capture.proofs.capture_lines.side_of.Goals as goal

pub returns-in-Cut : goal.returns-in-Cut
returns-in-Cut c = search rules
