use Rattle.std.proofs.Common.{rules}
use Rattle.wsn_color.proofs.line.Line.take_tone.Goals as goal

pub returns-clause-after : goal.returns-clause-after
returns-clause-after c = search rules
