use Rattle.std.proofs.Common.{rules}
use Rattle.wsn_color.proofs.line.Line.new.Goals as goal

pub returns : goal.returns
returns c = search rules
