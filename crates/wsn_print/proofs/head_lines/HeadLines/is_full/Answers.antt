use Rattle.std.proofs.Common.{rules}
use Rattle.wsn_print.proofs.head_lines.HeadLines.is_full.Goals as goal

pub returns-clause-room : goal.returns-clause-room
returns-clause-room c = search rules
