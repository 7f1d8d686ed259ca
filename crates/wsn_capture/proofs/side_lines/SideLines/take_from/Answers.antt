use Rattle.std.proofs.Common.{rules}
use Rattle.wsn_capture.proofs.side_lines.SideLines.take_from.Goals as goal

pub returns-clause-within : goal.returns-clause-within
returns-clause-within c = search rules
