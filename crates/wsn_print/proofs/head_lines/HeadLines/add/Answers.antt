use Rattle.std.proofs.Common.{rules}
use Rattle.wsn_print.proofs.head_lines.HeadLines.add.Goals as goal

pub returns : goal.returns
returns c = search rules
