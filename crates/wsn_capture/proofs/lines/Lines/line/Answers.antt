use Rattle.std.proofs.Common.{rules}
use Rattle.wsn_capture.proofs.lines.Lines.line.Goals as goal

pub returns : goal.returns
returns c = search rules
