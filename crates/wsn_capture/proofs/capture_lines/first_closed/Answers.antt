use Rattle.std.proofs.Common.{rules}
use Rattle.wsn_capture.proofs.capture_lines.first_closed.Goals as goal

pub returns-in-Some-Some : goal.returns-in-Some-Some
returns-in-Some-Some c = search rules
